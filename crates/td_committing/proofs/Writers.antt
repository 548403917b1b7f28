-- Writers that have nothing yet and are written to: what they tell, and how often they failed.
use Rattle.std.proofs.Common.{◌≡◌, inl, inr, ⊎_elim, ℕ, ◌+◌, ◌-◌, ◌^◌, ◌<◌, ◌≤◌, true, false, List, [], ◌∷◌, ◌++◌, map, reverse, length, take, drop, Option, Some, None, All, refl, sym, ap, subst, ◌∙◌, arith, append_assoc}
use Rattle.std.specs.Prelude.{IsSome, IfSome, sum, is_some, Result, Err}
use Rattle.std.specs.Option.{option_map}
use Rattle.std.specs.List.{AllByRecursion}
use Rattle.std.proofs.Math.Seq.{take-append_seam}
use Rattle.std.proofs.lemmas.Bool.{false≢true}
use Rattle.std.proofs.lemmas.List.{reverse-append}
use Rattle.std.proofs.lemmas.List.Elements.{All-from_recursion, recursion_from_All}
use Rattle.std.proofs.lemmas.List.Sums.{sum_by-cons}
use Rattle.td_limits.specs.declared.limits.TheConstants.{LAST_DAY_RANGE}
use Rattle.td_outside.specs.Causes.{Rose, raised}
use Rattle.td_outside.specs.Image.{Image}
use Rattle.td_outside.specs.declared.faults.IoFault.{IoFault}
use Rattle.td_outside.specs.declared.faults.IoFault.TheVariants.{Failed}
use Rattle.td_commit.specs.Sound.{Rise, RiseAbove, IsSound}
use Rattle.td_commit.specs.Files.{AreFilesOf, HasFaults, OneRose}
use Rattle.td_commit.specs.declared.frozen.Frozen.{Frozen}
use Rattle.td_engine.specs.Installs.{HaveFiles}

-- ---- what they tell

-- nothing is written where the store tells its image, and nothing is told where it doesn't
abbrev NothingIn : Option Image → Option (List ℕ) → Type 0
NothingIn told written = written ≡ option_map (λ _. []) told

nothing_if : (told : Option Image) (written : Option (List ℕ)) → NothingIn told written → IfSome written (λ bytes. bytes ≡ [])
nothing_if None written e = subst (λ (o : Option (List ℕ)). IfSome o (λ bytes. bytes ≡ [])) (sym e) tt
nothing_if (Some image) written e = subst (λ (o : Option (List ℕ)). IfSome o (λ bytes. bytes ≡ [])) (sym e) refl

are_empty : {W : Type 0} (f : W → Option (List ℕ)) (told : Option Image) (ws : List W) → AllByRecursion (λ w. NothingIn told (f w)) ws → AllByRecursion (λ w. IfSome (f w) (λ bytes. bytes ≡ [])) ws
are_empty f told [] h = tt
are_empty f told (w ∷ ws) h = (nothing_if told (f w) h.0, are_empty f told ws h.1)

-- new writers have nothing
pub empty_writers : {W : Type 0} (f : W → Option (List ℕ)) (told : Option Image) (ws : List W) → All (λ w. NothingIn told (f w)) ws → AllByRecursion (λ w. IfSome (f w) (λ bytes. bytes ≡ [])) ws
empty_writers f told ws h = are_empty f told ws (recursion_from_All (λ w. NothingIn told (f w)) ws h)

some_told : {W : Type 0} (f : W → Option (List ℕ)) (image : Image) (ws : List W) → AllByRecursion (λ w. NothingIn (Some image) (f w)) ws → AllByRecursion (λ (o : Option (List ℕ)). IsSome o) (map f ws)
some_told f image [] h = tt
some_told f image (w ∷ ws) h = (subst (λ (o : Option (List ℕ)). IsSome o) (sym h.0) refl, some_told f image ws h.1)

are_told : {W : Type 0} (f : W → Option (List ℕ)) (told : Option Image) (ws : List W) → All (λ w. NothingIn told (f w)) ws → IfSome told (λ _. All (λ (o : Option (List ℕ)). IsSome o) (map f ws))
are_told f None ws h = tt
are_told f (Some image) ws h = All-from_recursion (λ (o : Option (List ℕ)). IsSome o) (map f ws) (some_told f image ws (recursion_from_All (λ w. NothingIn (Some image) (f w)) ws h))

-- new writers that were written to have the files
pub have_files : {W : Type 0} (f : W → Option (List ℕ)) (told : Option Image) (frozen : Frozen) (befores afters : List W) → All (λ w. NothingIn told (f w)) befores → AreFilesOf frozen frozen.ranges (map f befores) (map f afters) → HaveFiles told frozen (map f afters)
have_files f told frozen befores afters empty files = record {
  befores = map f befores;
  files = files;
  are_told = are_told f told befores empty;
}

-- ---- one by one

-- the last of a list goes to the end of those that are turned round
pub turned_more : {T : Type 0} (all items rest done : List T) (item : T) → items ≡ rest ++ item ∷ [] → items ++ reverse done ≡ all → rest ++ reverse (done ++ item ∷ []) ≡ all
turned_more all items rest done item pop whole =
    ap (λ l. rest ++ l) (reverse-append done (item ∷ [])) ∙ sym (append_assoc rest (item ∷ []) (reverse done)) ∙ ap (λ l. l ++ reverse done) (sym pop) ∙ whole

-- ---- how often they failed

-- where a count rose, the counts are not all 0
pub one_failed : (befores afters : List ℕ) → OneRose befores afters → 1 ≤ sum afters
one_failed [] afters h = absurd h
one_failed (before ∷ befores) [] h = absurd h
one_failed (before ∷ befores) (after ∷ afters) h =
    let all : sum (after ∷ afters) ≡ after + sum afters = sum_by-cons (λ (n : ℕ). n) after afters in
    ⊎_elim (λ here. let first : Rose before after = here in omega (arith, first, all)) (λ there. let rest : 1 ≤ sum afters = one_failed befores afters there in omega (arith, rest, all)) h

-- faults that are taken over raise the count
pub faults_rise : (before faults now : ℕ) → raised before faults ≤ now → 1 ≤ faults → Rose before now
faults_rise before faults now over some = omega arith

pub over_later : (before faults now : ℕ) → raised before faults ≤ now → raised before 0 ≤ now
over_later before faults now over = omega arith

-- ---- how many there are

few_above : (last most : ℕ) (ns : List ℕ) → last ≤ most → RiseAbove last ns → AllByRecursion (λ (n : ℕ). n ≤ most) ns → length ns + last ≤ most
few_above last most [] le rise all = omega arith
few_above last most (n ∷ ns) le rise all =
    let rest : length ns + n ≤ most = few_above n most ns all.0 rise.1 all.1 in
    let above : last < n = rise.0 in
    omega arith

few : (most : ℕ) (ns : List ℕ) → Rise ns → AllByRecursion (λ (n : ℕ). n ≤ most) ns → length ns ≤ most + 1
few most [] rise all = omega arith
few most (n ∷ ns) rise all =
    let rest : length ns + n ≤ most = few_above n most ns all.0 rise all.1 in
    omega arith

-- the day ranges of a memtable are few enough to be counted by 32 bits
pub few_ranges : (f : Frozen) → IsSound f → length f.ranges < 2 ^ 32
few_ranges f sound =
    let most : length f.ranges ≤ LAST_DAY_RANGE + 1 = few LAST_DAY_RANGE f.ranges sound.rise sound.last in
    omega arith

-- ---- writers that were lent and came back

-- items that were lent to be written to are those that came back
pub written_back : {W : Type 0} (long : ℕ) (new old : List W) → long ≡ length new → take long (new ++ drop (length new) old) ≡ new
written_back long new old e = ap (λ n. take n (new ++ drop (length new) old)) e ∙ take-append_seam new (drop (length new) old)

-- the files of a frozen memtable are in the writers that came back
pub files_back : {W : Type 0} (f : W → Option (List ℕ)) (told : Option Image) (frozen : Frozen) (lent new items back : List W) → lent ≡ items → back ≡ new → All (λ w. NothingIn told (f w)) items → AreFilesOf frozen frozen.ranges (map f lent) (map f new)
    → HaveFiles told frozen (map f back)
files_back {W} f told frozen lent new items back value is empty files =
    have_files f told frozen items back empty
    (subst (λ (ws : List W). AreFilesOf frozen frozen.ranges (map f ws) (map f back)) value
    (subst (λ (ws : List W). AreFilesOf frozen frozen.ranges (map f lent) (map f ws)) (sym is) files))

-- where writing failed, one of the writers that came back had a fault
pub faults_back : {W T : Type 0} (count : W → ℕ) (lent new back : List W) (r : Result T IoFault) → back ≡ new → r ≡ Err Failed → HasFaults (map count lent) (map count new) r → 1 ≤ sum (map count back)
faults_back {W} {T} count lent new back r is err h =
    subst (λ (ws : List W). 1 ≤ sum (map count ws)) (sym is)
    (one_failed (map count lent) (map count new) (h.failed err))
