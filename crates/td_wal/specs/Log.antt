-- The bytes of a log.
use Rattle.std.specs.Prelude.{◌≡◌, ◌≢◌, ℕ, ◌+◌, ◌-◌, ◌&&◌, Bool, true, List, [], ◌∷◌, ◌++◌, length, Result, Ok, Err}
use Rattle.td_wal.specs.Items.{item, item_bytes}
use Rattle.td_wal.specs.declared.item.LogItem.{LogItem}
use Rattle.td_wal.specs.declared.reading.LogFault.{LogFault}
use Rattle.td_wal.specs.declared.reading.LogFault.TheVariants as faults

-- open gates, each with its item behind it
abbrev pub opened : List LogItem → List ℕ
opened [] = []
opened (i ∷ is) = 1 ∷ (item_bytes i ++ opened is)

-- the versions rise by one from this one on, the moments don't fall from this one on, and each item keeps its other
-- rules
abbrev pub items_fit : ℕ → ℕ → List LogItem → Bool
items_fit version least [] = true
items_fit version least (i ∷ is) = (item version least).fits i && items_fit (version + 1) i.moment is

-- The bytes are a log of these items from a version on: an open gate before each of them, and then a closed gate, which
-- is any byte but 1. Whatever stands behind it means nothing.
pub record IsLog (first : ℕ) (bytes : List ℕ) (items : List LogItem) : Type 0 where
  pub gate : ℕ
  pub rest : List ℕ
  pub closed : gate ≢ 1
  pub bytes_are : bytes ≡ opened items ++ gate ∷ rest
  pub fit : items_fit first 0 items ≡ true

-- the same, and the closed gate stands at this place
pub record LogAt (first : ℕ) (items : List LogItem) (at : ℕ) (bytes : List ℕ) : Type 0 where
  pub log : IsLog first bytes items
  pub place : at ≡ length (opened items)

-- the moment of the last of some items, or this one
abbrev pub last_moment : ℕ → List LogItem → ℕ
last_moment least [] = least
last_moment least (i ∷ is) = last_moment i.moment is

-- No gate stands there, or it is open and the item behind it breaks its form. So many bytes are left at the fault.
abbrev pub Breaks : ℕ → ℕ → List ℕ → ℕ → Type 0
Breaks version least [] left = left ≡ 0
Breaks version least (gate ∷ rest) left = (gate ≡ 1) × ((item version least).read rest ≡ Err left)

-- Behind these items, which are whole, the bytes break the form of a log from a version on; the fault is at this place.
pub record BreaksAt (first : ℕ) (bytes : List ℕ) (items : List LogItem) (at : ℕ) : Type 0 where
  pub rest : List ℕ
  pub left : ℕ
  pub bytes_are : bytes ≡ opened items ++ rest
  pub fit : items_fit first 0 items ≡ true
  pub breaks : Breaks (first + length items) (last_moment 0 items) rest left
  pub place : at ≡ length bytes - left

-- What is answered of bytes as a log from a version on: its items, or the place where its form breaks with the items
-- before. Want of memory says nothing.
abbrev pub Answers : ℕ → List ℕ → Result (List LogItem) LogFault → Type 0
Answers first bytes (Ok items) = IsLog first bytes items
Answers first bytes (Err (faults.NotThis at items)) = BreaksAt first bytes items at
Answers first bytes (Err faults.NoMemory) = Unit {0}

-- the same of an answer with the place of the closed gate
abbrev pub AnswersAt : ℕ → List ℕ → Result (List LogItem × ℕ) LogFault → Type 0
AnswersAt first bytes (Ok x) = LogAt first x.0 x.1 bytes
AnswersAt first bytes (Err (faults.NotThis at items)) = BreaksAt first bytes items at
AnswersAt first bytes (Err faults.NoMemory) = Unit {0}
