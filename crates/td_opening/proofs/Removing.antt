-- What taking away finished files leaves of an image, and what it stands for.
use Rattle.std.proofs.Common.{◌≡◌, ℕ, zero, suc, ◌+◌, ◌<◌, ◌||◌, Bool, true, false, eqb, List, [], ◌∷◌, ◌++◌, length, map, reverse, get_or, take, Option, Some, None, refl, sym, ap, subst, ◌∙◌, arith}
use Rattle.std.specs.Prelude.{All, is_some, IsSome, IfSome}
use Rattle.std.specs.Option.{option_map}
use Rattle.std.specs.List.{AllByRecursion, flat_map}
use Rattle.std.proofs.lemmas.Bool.{cond-true, ne_eqb, eq-eqb, eqb-true, or_left, or_right, or_parts, true≢false}
use Rattle.std.proofs.lemmas.List.Elements.{All-from_recursion, recursion_from_All}
use Rattle.std.proofs.lemmas.List.Folds.{list_any_more}
use Rattle.td_fileset.specs.Stack.{Layer}
use Rattle.td_fileset.specs.Sources.{Kept, InSttFile, InDataFile}
use Rattle.td_fileset.specs.Layered.{OpenSet, rows_told, are_sound, set_layers}
use Rattle.td_model.specs.State.{State, Rows}
use Rattle.td_outside.specs.Image.{Log, Image, Along, Becomes, put}
use Rattle.td_outside.specs.Files.{lists, IsOnce, NamesFiles, IsFinished, IsUnread, after_remove, after_failed_remove}
use Rattle.td_manifest.specs.declared.head.Head.{Head}
use Rattle.td_manifest.specs.declared.head.HeadSet.{HeadSet}
use Rattle.td_manifest.specs.Files.{main_file, files_of, all_files}
use Rattle.td_printed.proofs.Rows.{all_reversed}
use Rattle.td_levels.specs.Levels.{Files, reads_of, open_set, open_sets, kinds_of, memtables_of}
use Rattle.td_stands.specs.Heads.{set_files, catalog_of, levels_of_head, HeadIs}
use Rattle.td_stands.specs.Stands.{FilesMake, Stands}
use Rattle.td_stands.proofs.Standing.{one_head}
use Rattle.td_opening.specs.declared.opening.Said.{Said}
use Rattle.td_opening.proofs.LogsSettled.{put_other, none_is}
use Rattle.td_opening.specs.Opening.{IsAtRest, LogsAlike, Settling, Sweeps, Swept, Says, IsWhole, StandAlike, Tidies, synced, dropped}

-- ---- files that stay

-- what is true of each number of a list
each_listed : (P : ℕ → Type 0) (xs : List ℕ) → ((n : ℕ) → lists n xs ≡ true → P n) → AllByRecursion P xs
each_listed P [] each = tt
each_listed P (x ∷ xs) each = (
  each x (or_left (eqb x x) (lists x xs) (eq-eqb x x refl)),
  each_listed P xs (λ n is. each n (or_right (eqb x n) (lists n xs) is)),
)

all_parts : (P : ℕ → Type 0) (xs ys : List ℕ) → AllByRecursion P (xs ++ ys) → AllByRecursion P xs × AllByRecursion P ys
all_parts P [] ys all = (tt, all)
all_parts P (x ∷ xs) ys all = let rest = all_parts P xs ys all.1 in ((all.0, rest.0), rest.1)

module _ (files others : Files) where
  -- a file holds what it held
  abbrev Stays : ℕ → Type 0
  Stays n = others n ≡ files n

  same_reads : (kept : Kept) (xs : List ℕ) → AllByRecursion Stays xs → map (reads_of others kept) xs ≡ map (reads_of files kept) xs
  same_reads kept [] all = refl
  same_reads kept (x ∷ xs) all =
      ap (λ (bytes : Option (List ℕ)). record { kept = kept; bytes = bytes; file = x; size = 0 } ∷ map (reads_of others kept) xs) all.0
      ∙ ap (λ l. reads_of files kept x ∷ l) (same_reads kept xs all.1)

  same_main : (o : Option ℕ) → AllByRecursion Stays (main_file o) → option_map (reads_of others InDataFile) o ≡ option_map (reads_of files InDataFile) o
  same_main None all = refl
  same_main (Some n) all = ap (λ (bytes : Option (List ℕ)). Some (record { kept = InDataFile; bytes = bytes; file = n; size = 0 })) all.0

  same_set : (s : HeadSet) → AllByRecursion Stays (files_of s) → open_set others (set_files s) ≡ open_set files (set_files s)
  same_set s all =
      let parts = all_parts Stays (main_file s.main) s.stt all in
      ap (λ stt. record { range = s.range; stt = stt; main = option_map (reads_of others InDataFile) s.main })
      (same_reads InSttFile (reverse s.stt) (all_reversed Stays s.stt parts.1))
      ∙ ap (λ main. record { range = s.range; stt = map (reads_of files InSttFile) (reverse s.stt); main = main }) (same_main s.main parts.0)

  same_sets : (sets : List HeadSet) → AllByRecursion Stays (all_files sets) → open_sets others (map set_files sets) ≡ open_sets files (map set_files sets)
  same_sets [] all = refl
  same_sets (s ∷ ss) all =
      let parts = all_parts Stays (files_of s) (all_files ss) all in
      ap (λ (o : OpenSet). o ∷ open_sets others (map set_files ss)) (same_set s parts.0)
      ∙ ap (λ (l : List OpenSet). open_set files (set_files s) ∷ l) (same_sets ss parts.1)

  finished_still : (xs : List ℕ) → AllByRecursion Stays xs → AllByRecursion (λ (n : ℕ). IsSome (files n)) xs → AllByRecursion (λ (n : ℕ). IsSome (others n)) xs
  finished_still [] all h = tt
  finished_still (x ∷ xs) all h = (subst (λ (o : Option (List ℕ)). IsSome o) (sym all.0) h.0, finished_still xs all.1 h.1)

-- ---- what an image stands for

-- another image has the head of an image and the files that this names, and its logs have the same items
pub record Carries (old new : Image) (h : Head) : Type 0 where
  pub head : new.head ≡ old.head
  pub first : LogsAlike (old.logs h.first_log) (new.logs h.first_log)
  pub second : LogsAlike (old.logs (h.first_log + 1)) (new.logs (h.first_log + 1))
  pub others : (n : ℕ) → h.first_log + 1 < n → new.logs n ≡ old.logs n
  pub files : (n : ℕ) → lists n (all_files h.sets) ≡ true → new.files n ≡ old.files n

pub carries_back : (old new : Image) (h : Head) → Carries old new h → Carries new old h
carries_back old new h c = record {
  head = sym c.head;
  first = λ first items. ((c.first first items).1, (c.first first items).0);
  second = λ first items. ((c.second first items).1, (c.second first items).0);
  others = λ n far. sym (c.others n far);
  files = λ n is. sym (c.files n is);
}

files_make : (old new : Image) (h : Head) (rows : Rows) → Carries old new h → FilesMake old h rows → FilesMake new h rows
files_make old new h rows c m =
    let stay = each_listed (λ (n : ℕ). new.files n ≡ old.files n) (all_files h.sets) c.files in
    let same = same_sets old.files new.files h.sets stay in
    record {
      finished = All-from_recursion (λ (n : ℕ). IsFinished n new) (all_files h.sets)
          (finished_still old.files new.files (all_files h.sets) stay (recursion_from_All (λ (n : ℕ). IsFinished n old) (all_files h.sets) m.finished));
      rows_are = ap (λ (sets : List OpenSet). rows_told (record { memtables = memtables_of (levels_of_head h); sets = sets; kinds = kinds_of (catalog_of h); edge = h.edge })) same ∙ m.rows_are;
      further = λ table lt.
          let none = m.further table lt in
          record {
            sound = λ kinds. subst (λ (sets : List OpenSet). are_sound (table, kinds) sets ≡ true) (sym same) (none.sound kinds);
            none = λ kinds. subst (λ (sets : List OpenSet). All (λ (l : Layer). l.partials ≡ []) (flat_map (set_layers (table, kinds)) sets)) (sym same) (none.none kinds);
          };
    }

pub stands_over : (old new : Image) (b : State) (p : Stands old b) → Carries old new p.head → Stands new b
stands_over old new b p c = record {
  head = p.head;
  rows = p.rows;
  older = p.older;
  newer = p.newer;
  holds = record {
    head = subst (λ (o : Option (List ℕ)). HeadIs o p.head) (sym c.head) p.holds.head;
    no_streams = p.holds.no_streams;
    files = files_make old new p.head p.rows c p.holds.files;
    first_log = (c.first (p.head.version + 1) p.older).0 p.holds.first_log;
    second_log = (c.second (p.head.version + 1 + length p.older) p.newer).0 p.holds.second_log;
    in_order = p.holds.in_order;
    none_above = λ n far. c.others n far ∙ p.holds.none_above n far;
  };
  between = p.between;
  frozen = p.frozen;
  active = p.active;
  first = p.first;
  second = p.second;
}

-- an image with this head stands for a state exactly where the other does
pub stand_alike : (old new : Image) (h : Head) → HeadIs old.head h → Carries old new h → StandAlike old new
stand_alike old new h is c s = (
  λ p. stands_over old new s p (subst (λ (x : Head). Carries old new x) (one_head old.head h p.head is p.holds.head) c),
  λ p.
      let there = subst (λ (o : Option (List ℕ)). HeadIs o h) (sym c.head) is in
      stands_over new old s p (subst (λ (x : Head). Carries new old x) (one_head new.head h p.head there p.holds.head) (carries_back old new h c)),
)

-- ---- what settling leaves

settled_carries : (old mid new : Image) (h : Head) (named : List ℕ) → ((n : ℕ) → lists n named ≡ lists n (all_files h.sets)) → Settling h.first_log old mid → Sweeps named mid new → Carries old new h
settled_carries old mid new h named same p q =
    let logs : new.logs ≡ mid.logs = ap (λ (x : Image). x.logs) q.rest in
    let at : (n : ℕ) → new.logs n ≡ mid.logs n = λ n. ap (λ (f : ℕ → Option Log). f n) logs in
    record {
      head = ap (λ (x : Image). x.head) q.rest ∙ ap (λ (x : Image). x.head) p.rest;
      first = subst (λ (o : Option Log). LogsAlike (old.logs h.first_log) o) (sym (at h.first_log)) p.first;
      second = subst (λ (o : Option Log). LogsAlike (old.logs (h.first_log + 1)) o) (sym (at (h.first_log + 1))) p.second;
      others = λ n far. at n ∙ p.others n far;
      files = λ n is. q.kept n (same n ∙ is) ∙ ap (λ (x : Image). x.files n) p.rest;
    }

settled_rest : (old mid new : Image) (fl : ℕ) (named : List ℕ) → Settling fl old mid → Sweeps named mid new
    → new ≡ record old { logs = new.logs; files = new.files; doubt = record old.doubt { fresh = new.doubt.fresh; gone = new.doubt.gone; removed = new.doubt.removed } }
settled_rest old mid new fl named p q =
    q.rest ∙ ap (λ (x : Image). record x { files = new.files; doubt = record x.doubt { removed = new.doubt.removed } }) p.rest
    ∙ ap (λ (x : ℕ → Option Log). record old { logs = x; files = new.files; doubt = record old.doubt { fresh = mid.doubt.fresh; gone = mid.doubt.gone; removed = new.doubt.removed } }) (sym (ap (λ (x : Image). x.logs) q.rest))
    ∙ ap (λ (x : ℕ → Bool). record old { logs = new.logs; files = new.files; doubt = record old.doubt { fresh = x; gone = mid.doubt.gone; removed = new.doubt.removed } }) (sym (ap (λ (x : Image). x.doubt.fresh) q.rest))
    ∙ ap (λ (x : ℕ → Bool). record old { logs = new.logs; files = new.files; doubt = record old.doubt { fresh = new.doubt.fresh; gone = x; removed = new.doubt.removed } }) (sym (ap (λ (x : Image). x.doubt.gone) q.rest))

tidies : (said : Said) (old mid new : Image) → IsWhole said → Says said old → Settling said.head.first_log old mid → Sweeps said.named mid new → Tidies old new
tidies said old mid new whole says p q = record {
  rest = settled_rest old mid new said.head.first_log said.named p q;
  alike = stand_alike old new said.head says.head.head (settled_carries old mid new said.head said.named whole.named p q);
}

sweeps_self : (named : List ℕ) (image : Image) → Sweeps named image image
sweeps_self named image = record { rest = refl; kept = λ n is. refl }

pub told_tidies : (said : Said) (old mid new : Option Image) → IsWhole said → IfSome old (Says said) → Along (Settling said.head.first_log) old mid → Along (Sweeps said.named) mid new → Along Tidies old new
told_tidies said None None None whole says p q = tt
told_tidies said None None (Some z) whole says p q = absurd q
told_tidies said None (Some y) new whole says p q = absurd p
told_tidies said (Some x) None new whole says p q = absurd p
told_tidies said (Some x) (Some y) None whole says p q = absurd q
told_tidies said (Some x) (Some y) (Some z) whole says p q = tidies said x y z whole says p q

pub told_sweeps_self : (named : List ℕ) (o : Option Image) → Along (Sweeps named) o o
told_sweeps_self named None = tt
told_sweeps_self named (Some image) = sweeps_self named image

pub logs_tidy : (said : Said) (old new : Option Image) → IsWhole said → IfSome old (Says said) → Along (Settling said.head.first_log) old new → Along Tidies old new
logs_tidy said old new whole says p = told_tidies said old new new whole says p (told_sweeps_self said.named new)

-- ---- removing one file after another

-- the first so many files that aren't named are gone, and the others are as they were
pub record SweptSoFar (named names : List ℕ) (i : ℕ) (old new : Image) : Type 0 where
  pub sweeps : Sweeps named old new
  pub gone : (n : ℕ) → lists n named ≡ false → lists n (take i names) ≡ true → new.files n ≡ None
  pub left : (n : ℕ) → lists n (take i names) ≡ false → new.files n ≡ old.files n

swept_none : (named names : List ℕ) (image : Image) → SweptSoFar named names 0 image image
swept_none named names image = record { sweeps = sweeps_self named image; gone = λ n other is. absurd (true≢false (sym is)); left = λ n is. refl }

pub told_none : (named names : List ℕ) (o : Option Image) → Along (SweptSoFar named names 0) o o
told_none named names None = tt
told_none named names (Some image) = swept_none named names image

at_names : (ys : List ℕ) (j n : ℕ) → j < length ys → n ≡ get_or ys j n → lists n ys ≡ true
at_names [] j n below at = absurd (omega (arith, below))
at_names (y ∷ ys) zero n below at = or_left (eqb y n) (lists n ys) (eq-eqb y n (sym at))
at_names (y ∷ ys) (suc j) n below at = or_right (eqb y n) (lists n ys) (at_names ys j n (omega (arith, below)) at)

-- a number that stands once isn't among those before it
once_before : (names : List ℕ) (i n : ℕ) → i < length names → n ≡ get_or names i n → IsOnce names → lists n (take i names) ≡ false
once_before [] i n lt is once = absurd (omega (arith, lt))
once_before (x ∷ xs) zero n lt is once = refl
once_before (x ∷ xs) (suc i) n lt is once =
    let within : i < length xs = omega (arith, lt) in
    by (eqb x n) refl (at_names xs i n within is) (once_before xs i n within is once.1)
  where
    by : (b : Bool) → eqb x n ≡ b → lists n xs ≡ true → lists n (take i xs) ≡ false → (b || lists n (take i xs)) ≡ false
    by true e there before = absurd (true≢false (sym there ∙ ap (λ (m : ℕ). lists m xs) (sym (eqb-true x n e)) ∙ once.0))
    by false e there before = before

unread : (named names : List ℕ) (i n : ℕ) (old new : Image) → i < length names → n ≡ get_or names i n → NamesFiles names old → IsAtRest old → SweptSoFar named names i old new → IsUnread n new
unread named names i n old new lt is names_are rest s =
    let there : is_some (old.files n) ≡ true = sym (names_are.each n) ∙ at_names names i n lt is in
    let same = s.left n (once_before names i n lt is names_are.once) in
    (subst (λ (o : Option (List ℕ)). IsSome o) (sym same) there, ap (λ (x : Image). x.readers n) s.sweeps.rest ∙ rest n)

pub told_unread : (named names : List ℕ) (i n : ℕ) (old new : Option Image) → i < length names → n ≡ get_or names i n → IfSome old (NamesFiles names) → IfSome old IsAtRest → Along (SweptSoFar named names i) old new
    → IfSome new (IsUnread n)
told_unread named names i n None None lt is names_are rest s = tt
told_unread named names i n None (Some y) lt is names_are rest s = absurd s
told_unread named names i n (Some x) None lt is names_are rest s = absurd s
told_unread named names i n (Some x) (Some y) lt is names_are rest s = unread named names i n x y lt is names_are rest s

-- the test of one more
more_listed : (names : List ℕ) (i n m : ℕ) → i < length names → n ≡ get_or names i n → lists m (take (i + 1) names) ≡ (lists m (take i names) || eqb n m)
more_listed names i n m lt is = list_any_more (λ (k : ℕ). eqb k m) names i n lt ∙ ap (λ (k : ℕ). lists m (take i names) || eqb k m) (sym is)

put_same : {A : Type 0} (n m : ℕ) (x : A) (f : ℕ → A) → eqb m n ≡ true → put n x f m ≡ x
put_same n m x f same = cond-true (eqb m n) x (f m) same

turned : (a b : ℕ) → eqb a b ≡ false → eqb b a ≡ false
turned a b e = ne_eqb b a (λ same. true≢false (sym (eq-eqb a b (sym same)) ∙ e))

removed_kept : (named : List ℕ) (n : ℕ) (old new : Image) → lists n named ≡ false → Sweeps named old new → Sweeps named old (after_remove n new)
removed_kept named n old new other s = record {
  rest = ap (λ (x : Image). record x { files = put n None new.files; doubt = record x.doubt { removed = put n false new.doubt.removed } }) s.rest;
  kept = λ m is. put_other n m None new.files (ne_eqb m n (λ e. true≢false (sym is ∙ ap (λ (k : ℕ). lists k named) e ∙ other))) ∙ s.kept m is;
}

failed_kept : (named : List ℕ) (n : ℕ) (old new : Image) → Sweeps named old new → Sweeps named old (after_failed_remove n new)
failed_kept named n old new s = record {
  rest = ap (λ (x : Image). record x { doubt = record x.doubt { removed = put n true new.doubt.removed } }) s.rest;
  kept = λ m is. s.kept m is;
}

removed_more : (named names : List ℕ) (i n : ℕ) (old new : Image) → i < length names → n ≡ get_or names i n → lists n named ≡ false → SweptSoFar named names i old new → SweptSoFar named names (i + 1) old (after_remove n new)
removed_more named names i n old new lt is other s = record {
  sweeps = removed_kept named n old new other s.sweeps;
  gone = λ m free listed. by_gone m (eqb m n) refl free (sym (more_listed names i n m lt is) ∙ listed);
  left = λ m listed.
      let parts = or_parts (lists m (take i names)) (eqb n m) (sym (more_listed names i n m lt is) ∙ listed) in
      put_other n m None new.files (turned n m parts.1) ∙ s.left m parts.0;
}
  where
    by_gone : (m : ℕ) (b : Bool) → eqb m n ≡ b → lists m named ≡ false → (lists m (take i names) || eqb n m) ≡ true → put n None new.files m ≡ None
    by_gone m true e free listed = put_same n m None new.files e
    by_gone m false e free listed = put_other n m None new.files e ∙ s.gone m free (first_of_two (lists m (take i names)) (eqb n m) (turned m n e) listed)
      where
        first_of_two : (a b : Bool) → b ≡ false → (a || b) ≡ true → a ≡ true
        first_of_two true b none h = refl
        first_of_two false b none h = sym none ∙ h

stayed_more : (named names : List ℕ) (i n : ℕ) (old new : Image) → i < length names → n ≡ get_or names i n → lists n named ≡ true → SweptSoFar named names i old new → SweptSoFar named names (i + 1) old new
stayed_more named names i n old new lt is own s = record {
  sweeps = s.sweeps;
  gone = λ m free listed. by_gone m (eqb n m) refl free (sym (more_listed names i n m lt is) ∙ listed);
  left = λ m listed. s.left m (or_parts (lists m (take i names)) (eqb n m) (sym (more_listed names i n m lt is) ∙ listed)).0;
}
  where
    by_gone : (m : ℕ) (b : Bool) → eqb n m ≡ b → lists m named ≡ false → (lists m (take i names) || b) ≡ true → new.files m ≡ None
    by_gone m true e free listed = absurd (true≢false (sym own ∙ ap (λ (k : ℕ). lists k named) (eqb-true n m e) ∙ free))
    by_gone m false e free listed = s.gone m free (either (lists m (take i names)) listed)
      where
        either : (a : Bool) → (a || false) ≡ true → a ≡ true
        either true h = refl
        either false h = h

pub told_removed : (named names : List ℕ) (i n : ℕ) (old mid new : Option Image) → i < length names → n ≡ get_or names i n → lists n named ≡ false → Along (SweptSoFar named names i) old mid → Becomes (after_remove n) mid new
    → Along (SweptSoFar named names (i + 1)) old new
told_removed named names i n None None None lt is other s b = tt
told_removed named names i n None None (Some z) lt is other s b = absurd b
told_removed named names i n None (Some y) new lt is other s b = absurd s
told_removed named names i n (Some x) None new lt is other s b = absurd s
told_removed named names i n (Some x) (Some y) None lt is other s b = absurd b
told_removed named names i n (Some x) (Some y) (Some z) lt is other s b = subst (λ (w : Image). SweptSoFar named names (i + 1) x w) (sym b) (removed_more named names i n x y lt is other s)

pub told_stayed : (named names : List ℕ) (i n : ℕ) (old new : Option Image) → i < length names → n ≡ get_or names i n → lists n named ≡ true → Along (SweptSoFar named names i) old new → Along (SweptSoFar named names (i + 1)) old new
told_stayed named names i n None None lt is own s = tt
told_stayed named names i n None (Some y) lt is own s = absurd s
told_stayed named names i n (Some x) None lt is own s = absurd s
told_stayed named names i n (Some x) (Some y) lt is own s = stayed_more named names i n x y lt is own s

pub told_sweeps : (named names : List ℕ) (i : ℕ) (old new : Option Image) → Along (SweptSoFar named names i) old new → Along (Sweeps named) old new
told_sweeps named names i None None s = tt
told_sweeps named names i None (Some y) s = absurd s
told_sweeps named names i (Some x) None s = absurd s
told_sweeps named names i (Some x) (Some y) s = s.sweeps

pub told_failed : (named names : List ℕ) (i n : ℕ) (old mid new : Option Image) → Along (SweptSoFar named names i) old mid → Becomes (after_failed_remove n) mid new → Along (Sweeps named) old new
told_failed named names i n None None None s b = tt
told_failed named names i n None None (Some z) s b = absurd b
told_failed named names i n None (Some y) new s b = absurd s
told_failed named names i n (Some x) None new s b = absurd s
told_failed named names i n (Some x) (Some y) None s b = absurd b
told_failed named names i n (Some x) (Some y) (Some z) s b = subst (λ (w : Image). Sweeps named x w) (sym b) (failed_kept named n x y s.sweeps)

swept : (named names : List ℕ) (i : ℕ) (old new : Image) → take i names ≡ names → NamesFiles names old → SweptSoFar named names i old new → Swept named old new
swept named names i old new whole names_are s = record {
  sweeps = s.sweeps;
  gone = λ n free. by n (lists n names) refl free;
}
  where
    by : (n : ℕ) (b : Bool) → lists n names ≡ b → lists n named ≡ false → new.files n ≡ None
    by n true e free = s.gone n free (ap (λ (l : List ℕ). lists n l) whole ∙ e)
    by n false e free = s.left n (ap (λ (l : List ℕ). lists n l) whole ∙ e) ∙ none_is (old.files n) (sym (names_are.each n) ∙ e)

pub told_swept : (named names : List ℕ) (i : ℕ) (old new : Option Image) → take i names ≡ names → IfSome old (NamesFiles names) → Along (SweptSoFar named names i) old new → Along (Swept named) old new
told_swept named names i None None whole names_are s = tt
told_swept named names i None (Some y) whole names_are s = absurd s
told_swept named names i (Some x) None whole names_are s = absurd s
told_swept named names i (Some x) (Some y) whole names_are s = swept named names i x y whole names_are s

-- ---- all of it

-- what is read of an image is kept by settling its logs
pub told_names : (fl : ℕ) (names : List ℕ) (old new : Option Image) → Along (Settling fl) old new → IfSome old (NamesFiles names) → IfSome new (NamesFiles names)
told_names fl names None None p h = h
told_names fl names None (Some y) p h = absurd p
told_names fl names (Some x) None p h = absurd p
told_names fl names (Some x) (Some y) p h =
    record { each = λ n. h.each n ∙ ap (λ (z : Image). is_some (z.files n)) (sym p.rest); once = h.once }

pub told_rest : (fl : ℕ) (old new : Option Image) → Along (Settling fl) old new → IfSome old IsAtRest → IfSome new IsAtRest
told_rest fl None None p h = h
told_rest fl None (Some y) p h = absurd p
told_rest fl (Some x) None p h = absurd p
told_rest fl (Some x) (Some y) p h = λ n. ap (λ (z : Image). z.readers n) p.rest ∙ h n

pub told_settles : (named : List ℕ) (fl : ℕ) (drops : Bool) (old mid less new : Option Image) → Becomes (synced fl) old mid → Becomes (dropped fl drops) mid less → Along (Swept named) less new
    → Along (λ x z. Swept named (dropped fl drops (synced fl x)) z) old new
told_settles named fl drops None None None None p q r = tt
told_settles named fl drops None None None (Some z) p q r = absurd r
told_settles named fl drops None None (Some y) new p q r = absurd q
told_settles named fl drops None (Some x) less new p q r = absurd p
told_settles named fl drops (Some w) None less new p q r = absurd p
told_settles named fl drops (Some w) (Some x) None new p q r = absurd q
told_settles named fl drops (Some w) (Some x) (Some y) None p q r = absurd r
told_settles named fl drops (Some w) (Some x) (Some y) (Some z) p q r =
    subst (λ (v : Image). Swept named v z) (q ∙ ap (λ (v : Image). dropped fl drops v) p) r
