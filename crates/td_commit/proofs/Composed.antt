-- The files of a memtable give together its parts in its day ranges.
use Rattle.std.proofs.Common.{◌≡◌, ℕ, ◌^◌, ◌<◌, ◌≤◌, max, min, nat_le, Bool, true, false, cond, ◌&&◌, ◌||◌, if◌then◌else◌, List, [], ◌∷◌, map, Option, Some, None, refl, sym, ap, subst, ◌∙◌, arith}
use Rattle.std.specs.List.{AllByRecursion}
use Rattle.std.specs.Option.{option_map}
use Rattle.std.specs.Ordering.{nat_cmp, ordering_then, is_eq}
use Rattle.std.specs.Cmp.{ranked}
use Rattle.std.specs.BTreeMap.{is_at}
use Rattle.std.specs.declared.cmp.Ordering.{Ordering}
use Rattle.std.specs.declared.cmp.Ordering.TheVariants.{Less, Equal, Greater}
use Rattle.std.proofs.lemmas.Bool.{eq-eqb, leb-true, le-leb, lt-leb}
use Rattle.td_limits.specs.declared.limits.TheConstants.{LAST_DAY_RANGE}
use Rattle.td_layer.specs.declared.values.Key.{Key}
use Rattle.td_layer.specs.declared.parts.Partial.{Partial}
use Rattle.td_layer.specs.declared.parts.Part.{Part}
use Rattle.td_layer.specs.Keys.{key_cmp}
use Rattle.td_layer.specs.Parts.{composed, no_part, put_over}
use Rattle.td_layer.specs.Scans.{is_cut}
use Rattle.td_memtree.specs.Keys.{item_at}
use Rattle.td_memtree.specs.Within.{is_within, pairs_within}
use Rattle.td_memtable.specs.Contents.{key_at, part_at, IsSound as IsMemtable, table_cuts}
use Rattle.td_fileio.specs.Days.{day_start, day_end, is_in_day}
use Rattle.td_sttfile.specs.Written.{bytes_of_list}
use Rattle.td_sttfile.specs.Scanned.{Want, Walked, scanned}
use Rattle.td_commit.specs.declared.frozen.Frozen.{Frozen}
use Rattle.td_commit.specs.Sound.{RiseAbove, Rise, IsSound}
use Rattle.td_commit.specs.Files.{IsFileOf, AreFilesOf}
use Rattle.td_commit.specs.Given.{IsWanted, Wants, GivesPartsOf, HasBirths, part_in, part_of_all, is_in_any, GiveParts}
use Rattle.td_commit.proofs.Parts.{within_is, both_of, gives_parts}

-- ---- the put of a key among some

same_ts : (a b : ℕ) (o : Ordering) → o ≡ nat_cmp a b → is_eq o ≡ true → a ≡ b
same_ts a b Less is h = absurd (let clash : false ≡ true = h in cc)
same_ts a b Equal is h = ranked a b Equal is
same_ts a b Greater is h = absurd (let clash : false ≡ true = h in cc)

same_key : (a b : Key) (o : Ordering) → o ≡ nat_cmp a.table b.table → is_eq (ordering_then o (nat_cmp a.ts b.ts)) ≡ true → a ≡ b
same_key a b Less is h = absurd (let clash : false ≡ true = h in cc)
same_key a b Equal is h =
    let table : a.table ≡ b.table = ranked a.table b.table Equal is in
    let ts : a.ts ≡ b.ts = same_ts a.ts b.ts (nat_cmp a.ts b.ts) refl h in
    ap (λ (n : ℕ). key_at n a.ts) table ∙ ap (λ (n : ℕ). key_at b.table n) ts
same_key a b Greater is h = absurd (let clash : false ≡ true = h in cc)

item_within : (lo hi key : Key) (puts : List (Key × Partial)) → item_at key (pairs_within lo hi puts) ≡ (if is_within lo hi key then item_at key puts else None)
item_within lo hi key [] = by (is_within lo hi key) None
  where
    by : (b : Bool) (o : Option Partial) → o ≡ (if b then o else o)
    by true o = refl
    by false o = refl
item_within lo hi key (e ∷ es) = by (is_within lo hi e.0) (is_at (key_cmp key) e.0) (is_within lo hi key) refl refl refl (item_within lo hi key es)
  where
    by : (a b c : Bool) → is_within lo hi e.0 ≡ a → is_at (key_cmp key) e.0 ≡ b → is_within lo hi key ≡ c → item_at key (pairs_within lo hi es) ≡ (if c then item_at key es else None)
        → item_at key (cond a (e ∷ pairs_within lo hi es) (pairs_within lo hi es)) ≡ (if c then cond b (Some e.1) (item_at key es) else None)
    by true true true ia ib ic i = ap (λ (q : Bool). cond q (Some e.1) (item_at key (pairs_within lo hi es))) ib
    by true true false ia ib ic i =
        let same = same_key key e.0 (nat_cmp key.table e.0.table) refl ib in
        absurd (let clash : true ≡ false = sym ia ∙ ap (is_within lo hi) (sym same) ∙ ic in cc)
    by true false true ia ib ic i = ap (λ (q : Bool). cond q (Some e.1) (item_at key (pairs_within lo hi es))) ib ∙ i
    by true false false ia ib ic i = ap (λ (q : Bool). cond q (Some e.1) (item_at key (pairs_within lo hi es))) ib ∙ i
    by false true true ia ib ic i =
        let same = same_key key e.0 (nat_cmp key.table e.0.table) refl ib in
        absurd (let clash : true ≡ false = sym ic ∙ ap (is_within lo hi) same ∙ ia in cc)
    by false true false ia ib ic i = i
    by false false true ia ib ic i = i
    by false false false ia ib ic i = i

-- ---- the part of one file

and_true : (a b : Bool) → b ≡ true → (a && b) ≡ a
and_true true b is = is
and_true false b is = refl

both_true : (a b : Bool) → a ≡ true → b ≡ true → (a && b) ≡ true
both_true true b ia ib = ib
both_true false b ia ib = ia

key_within : (range : ℕ) (want : Want) (key : Key) → Wants want key → is_within (key_at want.table (max want.lo (day_start range))) (key_at want.table (min want.hi (day_end range))) key ≡ is_in_day range key.ts
key_within range want key wants =
    let asked : (nat_le want.lo key.ts && nat_le key.ts want.hi) ≡ true = both_true (nat_le want.lo key.ts) (nat_le key.ts want.hi) (le-leb want.lo key.ts wants.from) (le-leb key.ts want.hi wants.to) in
    within_is want.table (max want.lo (day_start range)) (min want.hi (day_end range)) key
    ∙ ap (λ (b : Bool). b && (nat_le (max want.lo (day_start range)) key.ts && nat_le key.ts (min want.hi (day_end range)))) (eq-eqb key.table want.table (sym wants.table))
    ∙ both_of want.lo want.hi (day_start range) (day_end range) key.ts
    ∙ and_true (is_in_day range key.ts) (nat_le want.lo key.ts && nat_le key.ts want.hi) asked

abbrev part_made : Bool → Option Partial → Part
part_made cut put = record { cut = cut; put = put }

clip_if : (b cut : Bool) (put : Option Partial) → part_made (b && cut) (if b then put else None) ≡ (if b then part_made cut put else no_part)
clip_if true cut put = refl
clip_if false cut put = refl

one_part : (f : Frozen) (range : ℕ) (want : Want) (key : Key) (bytes : List ℕ) → IsWanted f want → Wants want key → GivesPartsOf f range bytes → part_in want key bytes ≡ (if is_in_day range key.ts then part_at key f.memtable else no_part)
one_part f range want key bytes is wants given =
    let number : 1 ≤ key.table = subst (λ (n : ℕ). 1 ≤ n) wants.table is.number in
    let fits : key.table < 2 ^ 32 = subst (λ (n : ℕ). n < 2 ^ 32) wants.table is.fits in
    let cut = given.cuts key number fits in
    let lo = key_at want.table (max want.lo (day_start range)) in
    let hi = key_at want.table (min want.hi (day_end range)) in
    let put : item_at key (scanned want bytes).partials ≡ (if is_in_day range key.ts then item_at key f.memtable.puts else None) =
    ap (λ (w : Walked). item_at key w.partials) (given.puts want is)
    ∙ item_within lo hi key f.memtable.puts
    ∙ ap (λ (b : Bool). if b then item_at key f.memtable.puts else None) (key_within range want key wants) in
    ap (λ (b : Bool). part_made b (item_at key (scanned want bytes).partials)) cut
    ∙ ap (λ (o : Option Partial). part_made (is_in_day range key.ts && is_cut key (table_cuts key.table f.memtable.cuts)) o) put
    ∙ clip_if (is_in_day range key.ts) (is_cut key (table_cuts key.table f.memtable.cuts)) (item_at key f.memtable.puts)

-- ---- all files

-- a timestamp of a day range lies in no later one
past_day : (range later ts : ℕ) → range < later → is_in_day range ts ≡ true → is_in_day later ts ≡ false
past_day range later ts lt is = by (nat_le ts (day_end range)) refl is
  where
    by : (b : Bool) → nat_le ts (day_end range) ≡ b → (nat_le (day_start range) ts && b) ≡ true → is_in_day later ts ≡ false
    by true end h =
        let at_most = leb-true ts (day_end range) end in
        let before : nat_le (day_start later) ts ≡ false = lt-leb (day_start later) ts (omega (arith, lt, at_most)) in
        ap (λ (b : Bool). b && nat_le ts (day_end later)) before
    by false end h = absurd (let clash : false ≡ true = and_no (nat_le (day_start range) ts) h in cc)
      where
        and_no : (a : Bool) → (a && false) ≡ true → false ≡ true
        and_no true h = h
        and_no false h = h

none_later : (last ts : ℕ) (ranges : List ℕ) → RiseAbove last ranges → is_in_day last ts ≡ true → is_in_any ranges ts ≡ false
none_later last ts [] rise is = refl
none_later last ts (r ∷ rs) rise is =
    ap (λ (b : Bool). b || is_in_any rs ts) (past_day last r ts rise.0 is) ∙ none_later last ts rs (above_more last r rs rise.0 rise.1) is
  where
    above_more : (last r : ℕ) (rs : List ℕ) → last < r → RiseAbove r rs → RiseAbove last rs
    above_more last r [] lt rise = tt
    above_more last r (s ∷ ss) lt rise = (omega (arith, lt, rise.0), rise.1)

put_over_none : (o : Option Partial) → put_over o None ≡ o
put_over_none None = refl
put_over_none (Some p) = refl

over_none : (p : Part) → composed p no_part ≡ p
over_none p = by p.cut refl
  where
    by : (b : Bool) → p.cut ≡ b → (if b then p else record { cut = false; put = put_over p.put None }) ≡ p
    by true is = refl
    by false is = ap (λ (o : Option Partial). part_made false o) (put_over_none p.put) ∙ ap (λ (b : Bool). part_made b p.put) (sym is)

-- one range and those behind it
first_and_rest : (b c : Bool) (own : Part) → (b ≡ true → c ≡ false) → composed (if b then own else no_part) (if c then own else no_part) ≡ (if (b || c) then own else no_part)
first_and_rest true c own apart = ap (λ (q : Bool). composed own (if q then own else no_part)) (apart refl) ∙ over_none own
first_and_rest false c own apart = refl

-- the files of some of the ranges
abbrev GiveAllOf : Frozen → List ℕ → List (List ℕ) → Type 0
GiveAllOf f [] [] = Unit {0}
GiveAllOf f (range ∷ ranges) (bytes ∷ files) = GivesPartsOf f range bytes × GiveAllOf f ranges files
GiveAllOf f [] (bytes ∷ files) = ⊥
GiveAllOf f (range ∷ ranges) [] = ⊥

rise_of_rest : (range : ℕ) (ranges : List ℕ) → RiseAbove range ranges → Rise ranges
rise_of_rest range [] rise = tt
rise_of_rest range (r ∷ rs) rise = rise.1

all_parts : (f : Frozen) (ranges : List ℕ) (files : List (List ℕ)) (want : Want) (key : Key) → Rise ranges → GiveAllOf f ranges files → IsWanted f want → Wants want key → part_of_all want key files ≡ (if is_in_any ranges key.ts then part_at key f.memtable else no_part)
all_parts f [] [] want key rise given is wants = refl
all_parts f [] (bytes ∷ files) want key rise given is wants = absurd given
all_parts f (range ∷ ranges) [] want key rise given is wants = absurd given
all_parts f (range ∷ ranges) (bytes ∷ files) want key rise given is wants =
    ap (λ (p : Part). composed p (part_of_all want key files)) (one_part f range want key bytes is wants given.0)
    ∙ ap (λ (p : Part). composed (if is_in_day range key.ts then part_at key f.memtable else no_part) p) (all_parts f ranges files want key (rise_of_rest range ranges rise) given.1 is wants)
    ∙ first_and_rest (is_in_day range key.ts) (is_in_any ranges key.ts) (part_at key f.memtable) (none_later range key.ts ranges rise)

told_bytes : (bytes others : List ℕ) (before : Option (List ℕ)) → Some bytes ≡ option_map (λ _. others) before → bytes ≡ others
told_bytes bytes others None is = absurd (let clash : ⊥ = cc in clash)
told_bytes bytes others (Some old) is = cc

one_given : (f : Frozen) (range : ℕ) (before : Option (List ℕ)) (bytes : List ℕ) → IsSound f → IsMemtable f.memtable → HasBirths f → range < 2 ^ 32 → IsFileOf f range before (Some bytes) → GivesPartsOf f range bytes
one_given f range before bytes sound m births small file =
    subst (λ (l : List ℕ). GivesPartsOf f range l) (sym (told_bytes bytes (bytes_of_list range file.tables) before file.written)) (gives_parts f range file.tables sound m births small file.are)

all_given : (f : Frozen) (ranges : List ℕ) (befores : List (Option (List ℕ))) (files : List (List ℕ)) → IsSound f → IsMemtable f.memtable → HasBirths f → AllByRecursion (λ (range : ℕ). range ≤ LAST_DAY_RANGE) ranges → AreFilesOf f ranges befores (map (λ (bytes : List ℕ). Some bytes) files) → GiveAllOf f ranges files
all_given f [] [] [] sound m births last are = tt
all_given f [] [] (bytes ∷ files) sound m births last are = absurd are
all_given f [] (before ∷ befores) files sound m births last are = absurd are
all_given f (range ∷ ranges) [] files sound m births last are = absurd are
all_given f (range ∷ ranges) (before ∷ befores) [] sound m births last are = absurd are
all_given f (range ∷ ranges) (before ∷ befores) (bytes ∷ files) sound m births last are =
    let at_most = last.0 in
    (one_given f range before bytes sound m births (omega (arith, at_most)) are.0, all_given f ranges befores files sound m births last.1 are.1)

pub give_parts : (f : Frozen) (befores : List (Option (List ℕ))) (files : List (List ℕ)) → IsSound f → IsMemtable f.memtable → HasBirths f → AreFilesOf f f.ranges befores (map (λ (bytes : List ℕ). Some bytes) files) → GiveParts f files
give_parts f befores files sound m births are = λ want key is wants. all_parts f f.ranges files want key sound.rise (all_given f f.ranges befores files sound m births sound.last are) is wants
