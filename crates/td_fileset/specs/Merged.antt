-- What contracts see of a merge of scans.
use Rattle.std.specs.Prelude.{◌≡◌, ℕ, ◌+◌, ◌-◌, ◌^◌, ◌≤◌, min, sum, sum_by, cond, List, [], ◌∷◌, ◌++◌, map, reverse, length, Option, Some, None, Result, Ok, Err, IfSome}
use Rattle.std.specs.Option.{option_map, option_and_then}
use Rattle.std.specs.List.{flat_map}
use Rattle.std.specs.Ordering.{is_lt}
use Rattle.td_layer.specs.declared.values.Key.{Key}
use Rattle.td_layer.specs.declared.values.Row.{Row}
use Rattle.td_layer.specs.Keys.{key_cmp}
use Rattle.td_layer.specs.declared.scans.ScanFault.{ScanFault}
use Rattle.td_layer.specs.Scans.{Places}
use Rattle.td_fileset.specs.Stack.{Layer, rows_of}
use Rattle.td_fileset.specs.Sources.{Fed, Reads, told_layer, waits, key_ahead, acted}

-- what all of some tell, where each tells it
abbrev pub all_told : {X : Type 0} → List (Option X) → Option (List X)
all_told [] = Some []
all_told (o ∷ os) = option_and_then (λ x. option_map (λ xs. x ∷ xs) (all_told os)) o

-- the layers of scans, where all tell theirs
abbrev pub told_layers : List Fed → Option (List Layer)
told_layers fs = all_told (map told_layer fs)

-- the places of damaged bytes of all scans, where all tell theirs
abbrev pub told_places : List (Option Places) → Option Places
told_places os = option_map (flat_map (λ (places : Places). places)) (all_told os)

abbrev pub places_of : List Fed → Option Places
places_of fs = told_places (map (λ (f : Fed). f.damaged) fs)

-- counts of faults together, up to the number's end
abbrev pub faults_of : List ℕ → ℕ
faults_of counts = min (sum counts) (2 ^ 64 - 1)

-- how many partials wait
abbrev pub waiting : List Fed → ℕ
waiting fs = sum_by (λ (f : Fed). waits f.ahead) fs

-- the sooner of two keys, of which each may be missing
abbrev pub sooner : Option Key → Option Key → Option Key
sooner None other = other
sooner (Some key) None = Some key
sooner (Some key) (Some other) = cond (is_lt (key_cmp other key)) (Some other) (Some key)

-- the least of the keys that wait and one more, which may be missing
abbrev pub least_key : Option Key → List Fed → Option Key
least_key least [] = least
least_key least (f ∷ fs) = least_key (sooner least (key_ahead f.ahead)) fs

-- what scans do to the row of a key one after the other, the oldest first
abbrev pub all_acted : Key → List Fed → Option Row → Option (Option Row)
all_acted key [] row = Some row
all_acted key (f ∷ newer) row = option_and_then (all_acted key newer) (acted key f row)

-- A merge of scans, of which the newest stands first: their layers as far as they aren't used yet, where all tell them;
-- how many partials were read and wait; the damaged places, where all tell them; and for each scan what it reads, and
-- how often its reader failed.
pub record Merged : Type 0 where
  pub layers : Option (List Layer)
  pub waiting : ℕ
  pub damaged : Option Places
  pub reads : List Reads
  pub counts : List ℕ

-- Scans, of which the oldest stands first, as a merge.
abbrev pub merged : List Fed → Merged
merged fs = record {
  layers = option_map reverse (told_layers fs);
  waiting = waiting fs;
  damaged = places_of fs;
  reads = reverse (map (λ (f : Fed). f.reads) fs);
  counts = reverse (map (λ (f : Fed). f.count) fs);
}

-- the rows that are left, where they are told
abbrev pub rows_left : Merged → Option (List (Key × Row))
rows_left m = option_map rows_of m.layers

-- a merge of no scan
abbrev pub nothing_merged : Merged
nothing_merged = merged []

-- A merge with one more scan, which stands over all others: its layer, its damaged places, what it reads, and the count
-- of its reader's faults.
abbrev pub on_top : Option Layer → Option Places → Reads → ℕ → Merged → Merged
on_top layer damaged reads count m = record {
  layers = option_and_then (λ older. option_map (λ newest. newest ∷ older) layer) m.layers;
  waiting = m.waiting;
  damaged = option_and_then (λ others. option_map (λ its. others ++ its) damaged) m.damaged;
  reads = reads ∷ m.reads;
  counts = count ∷ m.counts;
}

-- a merge still reads the same files, and tells the same damaged places
pub record StaysSame (old new : Merged) : Type 0 where
  pub reads : new.reads ≡ old.reads
  pub damaged : new.damaged ≡ old.damaged

-- rows behind that of a key, if it has one
abbrev pub behind : Key → Option Row → List (Key × Row) → List (Key × Row)
behind key None rows = rows
behind key (Some row) rows = (key, row) ∷ rows

-- Where a merge tells its layers, a step gives the next key that waits with its row, if it has one, and leaves the rows
-- behind that one; where no key waits no row is left. A fault leaves all rows.
abbrev pub IsTaken : Option (List Layer) → Option (List Layer) → Result (Option (Key × Option Row)) ScanFault → Type 0
IsTaken None None r = Unit {0}
IsTaken None (Some new) r = ⊥
IsTaken (Some old) None r = ⊥
IsTaken (Some old) (Some new) (Ok (Some p)) = rows_of old ≡ behind p.0 p.1 (rows_of new)
IsTaken (Some old) (Some new) (Ok None) = (rows_of old ≡ []) × (rows_of new ≡ [])
IsTaken (Some old) (Some new) (Err fault) = rows_of new ≡ rows_of old

-- how many partials layers have
abbrev pub held : List Layer → ℕ
held layers = sum_by (λ (l : Layer). length l.partials) layers

-- Of the partials that were used since, each was read, which is a step; what waits now and waited before counts. So
-- many rows came of them, of which each took at least one. What waits isn't used yet.
pub record HasSteps (old new : Merged) (before now rows : ℕ) : Type 0 where
  pub least : before + new.waiting + rows ≤ now + old.waiting
  pub most : IfSome old.layers (λ was. IfSome new.layers
      (λ is. now + held is + old.waiting ≤ before + held was + new.waiting))
  pub unused : IfSome new.layers (λ is. new.waiting ≤ held is)
