-- What scans and snapshots say of what they give.
use Rattle.std.specs.Prelude.{◌≡◌, ℕ, ◌+◌, ◌-◌, ◌^◌, ◌≤◌, min, Bool, ◌&&◌, ◌==◌, nat_le, List, [], ◌∷◌, map, filter, Option, Some, None, Result, Ok, Err, OnOk, IfErr, IfSome, MatchOption, MatchResult, Contains}
use Rattle.std.specs.List.{list_any}
use Rattle.td_layer.specs.declared.values.Key.{Key}
use Rattle.td_layer.specs.declared.values.Row.{Row}
use Rattle.td_layer.specs.declared.scans.ScanFault.{ScanFault}
use Rattle.td_layer.specs.declared.scans.ScanFault.TheVariants.{ReadFault, Damaged, NoMemory}

-- a cut: a table's range of timestamps, whose ends belong to it
pub record Cut : Type 0 where
  pub table : ℕ
  pub lo : ℕ
  pub hi : ℕ

-- whether a key lies in one of some cuts
abbrev pub is_cut : Key → List Cut → Bool
is_cut key cuts = list_any (λ (c : Cut). (c.table == key.table) && (nat_le c.lo key.ts && nat_le key.ts c.hi)) cuts

-- Partials that are left, where they are told: a call gives the first of them and leaves the others, and where there is
-- none it gives none. A fault leaves all.
abbrev pub GivesFirst : {X : Type 0} → Option (List X) → Option (List X) → Result (Option X) ScanFault → Type 0
GivesFirst None None r = Unit {0}
GivesFirst None (Some new) r = ⊥
GivesFirst (Some old) None r = ⊥
GivesFirst (Some old) (Some new) r =
    MatchResult r (λ o. MatchOption o ((old ≡ []) × (new ≡ [])) (λ x. old ≡ x ∷ new)) (λ _. new ≡ old)

-- places of bytes that are damaged: a file's number, and the place in the file
abbrev pub Places : Type 0
Places = List (ℕ × ℕ)

-- a count after one more, up to its type's end
abbrev pub Rose : ℕ → ℕ → Type 0
Rose before now = min (before + 1) (2 ^ 64 - 1) ≤ now

-- Why a scan stopped: a reader failed, where the count rose; or the bytes at a place are damaged, which is one of the
-- damaged places where these are told; or there was no memory.
abbrev pub Explains : Option Places → ℕ → ℕ → ScanFault → Type 0
Explains damaged before now ReadFault = Rose before now
Explains damaged before now (Damaged file at) = (now ≡ before) × IfSome damaged (λ places. Contains places (file, at))
Explains damaged before now NoMemory = now ≡ before

-- A count of faults never falls, and where no fault came it stays.
pub record HasScanCause {X : Type 0} (damaged : Option Places) (before now : ℕ) (result : Result X ScanFault) :
    Type 0 where
  pub later : before ≤ now
  pub kept : OnOk result (now ≡ before)
  pub fault : IfErr result (Explains damaged before now)

-- how many partials a call gave
abbrev pub given : {X : Type 0} → Result (Option X) ScanFault → ℕ
given (Ok (Some x)) = 1
given (Ok None) = 0
given (Err fault) = 0

-- the rows of a table's range of timestamps, whose ends belong to it, by timestamp
abbrev pub rows_in : ℕ → ℕ → ℕ → List (Key × Row) → List (ℕ × Row)
rows_in table lo hi rows =
    map (λ (e : Key × Row). (e.0.ts, e.1)) (filter
    (λ (e : Key × Row). (e.0.table == table) && (nat_le lo e.0.ts && nat_le e.0.ts hi)) rows)
