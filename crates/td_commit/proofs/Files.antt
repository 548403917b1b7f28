-- Files that are written one after another.
use Rattle.std.proofs.Common.{◌≡◌, ℕ, zero, suc, ◌+◌, ◌<◌, ◌≤◌, inl, inr, List, [], ◌∷◌, length, map, get_or, Option, None, refl, sym, ap, subst, ◌∙◌, arith}
use Rattle.std.specs.Prelude.{slice_set, IfSome, Result, Ok, Err}
use Rattle.std.specs.List.{AllZip, AllByRecursion}
use Rattle.std.proofs.lemmas.List.{length-map, get_or-map, map-set}
use Rattle.td_outside.specs.declared.faults.IoFault.{IoFault}
use Rattle.td_outside.specs.declared.faults.IoFault.TheVariants.{Failed, NoMemory}
use Rattle.td_outside.specs.Causes.{Rose, HasFault}
use Rattle.td_commit.specs.declared.frozen.Frozen.{Frozen}
use Rattle.td_commit.specs.Files.{IsFileOf, AreFilesOf, OneRose, HasFaults}

-- the first so many writers have their files, and the others what they had
abbrev pub AreFilesUpTo : Frozen → ℕ → List ℕ → List (Option (List ℕ)) → List (Option (List ℕ)) → Type 0
AreFilesUpTo f zero ranges befores afters = afters ≡ befores
AreFilesUpTo f (suc i) (range ∷ ranges) (before ∷ befores) (after ∷ afters) = IsFileOf f range before after × AreFilesUpTo f i ranges befores afters
AreFilesUpTo f (suc i) [] befores afters = ⊥
AreFilesUpTo f (suc i) (range ∷ ranges) [] afters = ⊥
AreFilesUpTo f (suc i) (range ∷ ranges) (before ∷ befores) [] = ⊥

-- the next writer has what it had
pub next_is : (f : Frozen) (i : ℕ) (ranges : List ℕ) (befores afters : List (Option (List ℕ))) → AreFilesUpTo f i ranges befores afters → get_or afters i None ≡ get_or befores i None
next_is f zero ranges befores afters are = ap (λ (l : List (Option (List ℕ))). get_or l 0 None) are
next_is f (suc i) (range ∷ ranges) (before ∷ befores) (after ∷ afters) are = next_is f i ranges befores afters are.1
next_is f (suc i) [] befores afters are = absurd are
next_is f (suc i) (range ∷ ranges) [] afters are = absurd are
next_is f (suc i) (range ∷ ranges) (before ∷ befores) [] are = absurd are

pub one_written : (f : Frozen) (i : ℕ) (ranges : List ℕ) (befores afters : List (Option (List ℕ))) (new : Option (List ℕ)) → i < length ranges → i < length befores → AreFilesUpTo f i ranges befores afters → IsFileOf f (get_or ranges i 0) (get_or befores i None) new → AreFilesUpTo f (suc i) ranges befores (slice_set afters i new)
one_written f zero [] befores afters new lr lb are file = absurd (omega (arith, lr))
one_written f zero (range ∷ ranges) [] afters new lr lb are file = absurd (omega (arith, lb))
one_written f zero (range ∷ ranges) (before ∷ befores) afters new lr lb are file =
    subst (λ (l : List (Option (List ℕ))). AreFilesUpTo f 1 (range ∷ ranges) (before ∷ befores) (slice_set l 0 new)) (sym are) (file, refl)
one_written f (suc i) (range ∷ ranges) (before ∷ befores) (after ∷ afters) new lr lb are file = (are.0, one_written f i ranges befores afters new (omega (arith, lr)) (omega (arith, lb)) are.1 file)
one_written f (suc i) [] befores afters new lr lb are file = absurd are
one_written f (suc i) (range ∷ ranges) [] afters new lr lb are file = absurd are
one_written f (suc i) (range ∷ ranges) (before ∷ befores) [] new lr lb are file = absurd are

pub all_written : (f : Frozen) (i : ℕ) (ranges : List ℕ) (befores afters : List (Option (List ℕ))) → i ≡ length ranges → length befores ≡ length ranges → AreFilesUpTo f i ranges befores afters → AreFilesOf f ranges befores afters
all_written f zero [] [] afters end same are = subst (λ (l : List (Option (List ℕ))). AreFilesOf f [] [] l) (sym are) tt
all_written f zero [] (before ∷ befores) afters end same are = absurd (omega (arith, same))
all_written f zero (range ∷ ranges) befores afters end same are = absurd (omega (arith, end))
all_written f (suc i) (range ∷ ranges) (before ∷ befores) (after ∷ afters) end same are = (are.0, all_written f i ranges befores afters (omega (arith, end)) (omega (arith, same)) are.1)
all_written f (suc i) [] befores afters end same are = absurd are
all_written f (suc i) (range ∷ ranges) [] afters end same are = absurd are
all_written f (suc i) (range ∷ ranges) (before ∷ befores) [] end same are = absurd are

-- ---- faults

all_same : (ns : List ℕ) → AllZip (λ (a b : ℕ). a ≤ b) ns ns
all_same [] = tt
all_same (n ∷ ns) = (omega arith, all_same ns)

all_later : (ns : List ℕ) (i new : ℕ) → i < length ns → get_or ns i 0 ≤ new → AllZip (λ (a b : ℕ). a ≤ b) ns (slice_set ns i new)
all_later [] i new lt le = absurd (omega (arith, lt))
all_later (n ∷ ns) zero new lt le = (le, all_same ns)
all_later (n ∷ ns) (suc i) new lt le = (omega arith, all_later ns i new (omega (arith, lt)) le)

one_rose : (ns : List ℕ) (i new : ℕ) → i < length ns → Rose (get_or ns i 0) new → OneRose ns (slice_set ns i new)
one_rose [] i new lt rose = absurd (omega (arith, lt))
one_rose (n ∷ ns) zero new lt rose = inl rose
one_rose (n ∷ ns) (suc i) new lt rose = inr (one_rose ns i new (omega (arith, lt)) rose)

set_same : (ns : List ℕ) (i new : ℕ) → new ≡ get_or ns i 0 → slice_set ns i new ≡ ns
set_same [] i new is = refl
set_same (n ∷ ns) zero new is = ap (λ (k : ℕ). k ∷ ns) is
set_same (n ∷ ns) (suc i) new is = ap (λ (l : List ℕ). n ∷ l) (set_same ns i new is)

-- the fault of one writer is that of all
pub fault_of_one : {T U : Type 0} (ns : List ℕ) (i new : ℕ) (e : IoFault) → i < length ns → HasFault {T = T} (get_or ns i 0) new (Err e) → HasFaults {T = U} ns (slice_set ns i new) (Err e)
fault_of_one ns i new e lt h = record {
  later = all_later ns i new lt h.later;
  failed = λ is. let same : e ≡ Failed = cc in one_rose ns i new lt (h.failed (ap (λ (x : IoFault). Err x) same));
  no_memory = λ is. let same : e ≡ NoMemory = cc in set_same ns i new (h.no_memory (ap (λ (x : IoFault). Err x) same));
  kept = tt;
}

pub no_fault : {U : Type 0} (befores afters : List ℕ) (u : U) → afters ≡ befores → HasFaults {T = U} befores afters (Ok u)
no_fault {U} befores afters u same = record {
  later = subst (λ (l : List ℕ). AllZip (λ (a b : ℕ). a ≤ b) befores l) (sym same) (all_same befores);
  failed = λ is. let clash : ⊥ = cc in absurd clash;
  no_memory = λ is. let clash : ⊥ = cc in absurd clash;
  kept = same;
}

-- ---- one writer after another

all_at : {W : Type 0} (P : W → Type 0) (ws : List W) (i : ℕ) (d : W) → i < length ws → AllByRecursion P ws → P (get_or ws i d)
all_at P [] i d lt all = absurd (omega (arith, lt))
all_at P (w ∷ ws) zero d lt all = all.0
all_at P (w ∷ ws) (suc i) d lt all = all_at P ws i d (omega (arith, lt)) all.1

module _ {W : Type 0} (written : W → Option (List ℕ)) (count : W → ℕ) where
  -- the next writer has what it had at first
  had : (f : Frozen) (i : ℕ) (ranges : List ℕ) (before files : List W) (d : W) → i < length files → i < length before → AreFilesUpTo f i ranges (map written before) (map written files) → written (get_or files i d) ≡ written (get_or before i d)
  had f i ranges before files d lt lb are =
      sym (get_or-map written files i d None lt) ∙ next_is f i ranges (map written before) (map written files) are ∙ get_or-map written before i d None lb

  pub next_empty : (f : Frozen) (i : ℕ) (ranges : List ℕ) (before files : List W) (d : W) → i < length files → i < length before → AllByRecursion (λ (w : W). IfSome (written w) (λ bytes. bytes ≡ [])) before → AreFilesUpTo f i ranges (map written before) (map written files) → IfSome (written (get_or files i d)) (λ bytes. bytes ≡ [])
  next_empty f i ranges before files d lt lb empty are =
      subst (λ (o : Option (List ℕ)). IfSome o (λ bytes. bytes ≡ [])) (sym (had f i ranges before files d lt lb are)) (all_at (λ (w : W). IfSome (written w) (λ bytes. bytes ≡ [])) before i d lb empty)

  pub next_written : (f : Frozen) (i : ℕ) (ranges : List ℕ) (before files : List W) (d new : W) → i < length files → i < length before → i < length ranges → AreFilesUpTo f i ranges (map written before) (map written files) → IsFileOf f (get_or ranges i 0) (written (get_or files i d)) (written new) → AreFilesUpTo f (i + 1) ranges (map written before) (map written (slice_set files i new))
  next_written f i ranges before files d new lt lb lr are file =
      let long = length-map before written in
      let at : written (get_or files i d) ≡ get_or (map written before) i None = had f i ranges before files d lt lb are ∙ sym (get_or-map written before i d None lb) in
      let own : IsFileOf f (get_or ranges i 0) (get_or (map written before) i None) (written new) = subst (λ (o : Option (List ℕ)). IsFileOf f (get_or ranges i 0) o (written new)) at file in
      let more : AreFilesUpTo f (suc i) ranges (map written before) (slice_set (map written files) i (written new)) = one_written f i ranges (map written before) (map written files) (written new) lr (omega (arith, long, lb)) are own in
      let set : AreFilesUpTo f (suc i) ranges (map written before) (map written (slice_set files i new)) = subst (λ (l : List (Option (List ℕ))). AreFilesUpTo f (suc i) ranges (map written before) l) (sym (map-set written files i new)) more in
      let next : suc i ≡ i + 1 = omega arith in
      subst (λ (n : ℕ). AreFilesUpTo f n ranges (map written before) (map written (slice_set files i new))) next set

  pub end_written : (f : Frozen) (i : ℕ) (ranges told : List ℕ) (before files : List W) → told ≡ ranges → i ≡ length before → length before ≡ length ranges → AreFilesUpTo f i told (map written before) (map written files) → AreFilesOf f ranges (map written before) (map written files)
  end_written f i ranges told before files same end all are =
      let long = length-map before written in
      all_written f i ranges (map written before) (map written files) (omega (arith, end, all)) (omega (arith, long, all)) (subst (λ (l : List ℕ). AreFilesUpTo f i l (map written before) (map written files)) same are)

  pub next_failed : (before files : List W) (i : ℕ) (d new : W) (e y : IoFault) (r : Result (Unit {0}) IoFault) → map count files ≡ map count before → i < length files → r ≡ Err y → y ≡ e → HasFault {T = Unit {0}} (count (get_or files i d)) (count new) (Err e) → HasFaults {T = Unit {0}} (map count before) (map count (slice_set files i new)) r
  next_failed before files i d new e y r same lt is from h =
      let long = length-map files count in
      let own : HasFault {T = Unit {0}} (get_or (map count files) i 0) (count new) (Err e) = subst (λ (n : ℕ). HasFault {T = Unit {0}} n (count new) (Err e)) (sym (get_or-map count files i d 0 lt)) h in
      let all : HasFaults {T = Unit {0}} (map count files) (slice_set (map count files) i (count new)) (Err e) = fault_of_one (map count files) i (count new) e (omega (arith, long, lt)) own in
      let set : HasFaults {T = Unit {0}} (map count files) (map count (slice_set files i new)) (Err e) = subst (λ (l : List ℕ). HasFaults {T = Unit {0}} (map count files) l (Err e)) (sym (map-set count files i new)) all in
      let told : HasFaults {T = Unit {0}} (map count before) (map count (slice_set files i new)) (Err e) = subst (λ (l : List ℕ). HasFaults {T = Unit {0}} l (map count (slice_set files i new)) (Err e)) same set in
      subst (λ (q : Result (Unit {0}) IoFault). HasFaults {T = Unit {0}} (map count before) (map count (slice_set files i new)) q) (sym (is ∙ ap (λ (x : IoFault). Err x) from)) told
