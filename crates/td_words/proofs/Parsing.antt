-- What `clap` makes of words of which none begins with a dash.
use Rattle.std.proofs.Common.{◌≡◌, ◌⊎◌, inl, inr, ℕ, suc, Bool, true, false, ◌&&◌, ◌||◌, ◌==◌, if◌then◌else◌, List, [], ◌∷◌, Some, None, refl, sym, ◌∙◌, ap, subst, codes, arith, nat_lt}
use Rattle.std.proofs.lemmas.Bool.{lt-ltb}
use Rattle.std.specs.Str.{bytes_eq}
use Rattle.std.specs.List.{list_any}
use lib.Pointwise.{bytes_decides}
use Rattle.clap.specs.Kinds.{Kinds, or_else}
use Rattle.clap.specs.declared.error.kind.ErrorKind.{ErrorKind}
use Rattle.clap.specs.declared.error.kind.ErrorKind.TheVariants as kind
use Rattle.clap.specs.Walk.{Text, Walk, walk, walk_from, nothing_held}
use Rattle.clap.specs.Simple.{built, is_simple, names_of, subcommand_of}
use Rattle.clap.specs.Faults.{entered_fault, fault_of, is_simple_and_free}
use Rattle.clap.proofs.OnLiterals.{clap_on_literals}
use Rattle.clap.proofs.WalkLemmas.{walk_stopped}
use Rattle.td_words.specs.Words.{is_dashed, is_dir, dir_of}
use Rattle.td_words.specs.Program.{program_app, dir_in}

-- a list of kinds that isn't empty
fails : (k : ErrorKind) (ks : Kinds) → k ∷ ks ≡ [] → ⊥
fails k ks e = cc

-- ---- too few words

no_word_fails : fault_of program_app [] ≡ [] → ⊥
unfolding clap_on_literals
no_word_fails e = cc

no_dir_fails : fault_of program_app (codes "play" ∷ []) ≡ [] → ⊥
unfolding clap_on_literals
no_dir_fails e = cc

empty_dir_fails : fault_of program_app (codes "play" ∷ [] ∷ []) ≡ [] → ⊥
unfolding clap_on_literals
empty_dir_fails e = cc

-- ---- the command

filled : (n : ℕ) → nat_lt 0 (suc n) ≡ true
filled n = lt-ltb 0 (suc n) (omega arith)

dir_taken : (x : ℕ) (xs : Text) → (x == 45) ≡ false → fault_of program_app (codes "play" ∷ (x ∷ xs) ∷ []) ≡ []
unfolding clap_on_literals
dir_taken x xs h = simp (h, filled) refl

dir_found : (x : ℕ) (xs : Text) → (x == 45) ≡ false → dir_in (subcommand_of program_app (codes "play" ∷ (x ∷ xs) ∷ [])) ≡ Some (x ∷ xs)
unfolding clap_on_literals
dir_found x xs h = simp h refl

-- ---- too many words

no_more : (a b : Kinds) → or_else a b ≡ [] → (a ≡ []) × (b ≡ [])
no_more [] b e = (refl, e)
no_more (k ∷ ks) b e = absurd (fails k ks e)

second_fails : (dir other : Text) (words : List Text) → is_dashed dir ≡ false → is_dashed other ≡ false
    → entered_fault (built program_app) (Some (codes "play", dir ∷ other ∷ words)) ≡ kind.UnknownArgument ∷ []
unfolding clap_on_literals
second_fails [] [] words h k = refl
second_fails [] (y ∷ ys) words h k = simp k refl
second_fails (x ∷ xs) [] words h k = simp h refl
second_fails (x ∷ xs) (y ∷ ys) words h k = simp (h, k) refl

many_fail : (dir other : Text) (words : List Text) → is_dashed dir ≡ false → is_dashed other ≡ false
    → fault_of program_app (codes "play" ∷ dir ∷ other ∷ words) ≡ [] → ⊥
unfolding clap_on_literals
many_fail dir other words h k e =
    let top = (built program_app).top.rules in
    let names = names_of (built program_app) in
    let start : Walk = walk_from nothing_held in
    let stops : ◌≡◌ {A = Walk} (record start { stopped = Some (codes "play", dir ∷ other ∷ words) }) (walk top names nothing_held (codes "play" ∷ dir ∷ other ∷ words)) =
    walk_stopped top names start (codes "play") [] (dir ∷ other ∷ words) in
    let below : entered_fault (built program_app) (walk top names nothing_held (codes "play" ∷ dir ∷ other ∷ words)).stopped ≡ [] = (no_more _ _ (no_more _ _ e).1).0 in
    let inside : entered_fault (built program_app) (Some (codes "play", dir ∷ other ∷ words)) ≡ [] = ap (λ (w : Walk). entered_fault (built program_app) w.stopped) stops ∙ below in
    fails kind.UnknownArgument [] (sym (second_fails dir other words h k) ∙ inside)

-- ---- another command

other_fails : (word : Text) (words : List Text) → bytes_eq (codes "play") word ≡ false → is_dashed word ≡ false
    → fault_of program_app (word ∷ words) ≡ kind.UnknownArgument ∷ kind.InvalidSubcommand ∷ []
unfolding clap_on_literals
other_fails [] words p h = refl
other_fails (x ∷ xs) words p h = simp (p, h) refl

-- ---- all words

by_name : (word : Text) → (word ≡ codes "play") ⊎ ((bytes_eq (codes "play") word ≡ false) × (bytes_eq word (codes "play") ≡ false))
by_name word = go (bytes_eq (codes "play") word) (bytes_eq word (codes "play")) refl refl
  where
    go : (b c : Bool) → bytes_eq (codes "play") word ≡ b → bytes_eq word (codes "play") ≡ c
        → (word ≡ codes "play") ⊎ ((bytes_eq (codes "play") word ≡ false) × (bytes_eq word (codes "play") ≡ false))
    go true c e f = inl (sym ((bytes_decides (codes "play") word).0 e))
    go false true e f = inl ((bytes_decides word (codes "play")).0 f)
    go false false e f = inr (e, f)

either_false : (a b : Bool) → (a || b) ≡ false → (a ≡ false) × (b ≡ false)
either_false true b e = absurd (let bad : true ≡ false = e in cc)
either_false false b e = (refl, e)

-- the words are read without a fault, and name what the definition says; or there is a fault, and they are no command
abbrev pub Read : List Text → Type 0
Read words = ((fault_of program_app words ≡ []) × (dir_in (subcommand_of program_app words) ≡ dir_of words))
    ⊎ ((fault_of program_app words ≡ [] → ⊥) × (dir_of words ≡ None))

named : (dir : Text) → is_dashed dir ≡ false → Read (codes "play" ∷ dir ∷ [])
named [] h = inr (empty_dir_fails, refl)
named (x ∷ xs) h = inl (dir_taken x xs h, dir_found x xs h ∙ simp h refl)

not_play : (word : Text) (words : List Text) → bytes_eq word (codes "play") ≡ false → dir_of (word ∷ words) ≡ None
not_play word [] e = refl
not_play word (dir ∷ []) e = simp e refl
not_play word (dir ∷ other ∷ words) e = refl

after_play : (words : List Text) → list_any is_dashed words ≡ false → Read (codes "play" ∷ words)
after_play [] h = inr (no_dir_fails, refl)
after_play (dir ∷ []) h = named dir (either_false (is_dashed dir) false h).0
after_play (dir ∷ other ∷ words) h =
    let both = either_false (is_dashed dir) (list_any is_dashed (other ∷ words)) h in
    inr (many_fail dir other words both.0 (either_false (is_dashed other) (list_any is_dashed words) both.1).0, refl)

reads : (words : List Text) → list_any is_dashed words ≡ false → Read words
reads [] h = inr (no_word_fails, refl)
reads (word ∷ words) h = go (by_name word)
  where
    both : (is_dashed word ≡ false) × (list_any is_dashed words ≡ false)
    both = either_false (is_dashed word) (list_any is_dashed words) h

    go : (word ≡ codes "play") ⊎ ((bytes_eq (codes "play") word ≡ false) × (bytes_eq word (codes "play") ≡ false)) → Read (word ∷ words)
    go (inl e) = subst (λ (w : Text). Read (w ∷ words)) (sym e) (after_play words both.1)
    go (inr p) = inr ((λ e. fails kind.UnknownArgument (kind.InvalidSubcommand ∷ []) (sym (other_fails word words p.0 both.0) ∙ e)), not_play word words p.1)

-- what is read without a fault is the command
pub read_is : (words : List Text) → list_any is_dashed words ≡ false → fault_of program_app words ≡ [] → dir_in (subcommand_of program_app words) ≡ dir_of words
read_is words h fine = go (reads words h)
  where
    go : Read words → dir_in (subcommand_of program_app words) ≡ dir_of words
    go (inl p) = p.1
    go (inr p) = absurd (p.0 fine)

-- words that are no command are the only ones with a fault
pub none_or_fine : (words : List Text) → list_any is_dashed words ≡ false → (dir_of words ≡ None) ⊎ (fault_of program_app words ≡ [])
none_or_fine words h = go (reads words h)
  where
    go : Read words → (dir_of words ≡ None) ⊎ (fault_of program_app words ≡ [])
    go (inl p) = inr p.0
    go (inr p) = inl p.1

pub is_simple_program : is_simple program_app ≡ true
unfolding clap_on_literals
is_simple_program = refl

pub is_free_program : is_simple_and_free program_app ≡ true
unfolding clap_on_literals
is_free_program = refl

-- a word that begins with a dash makes no command
dashed_dir : (dir : Text) (b : Bool) → is_dashed dir ≡ true → (if b && is_dir dir then Some dir else None) ≡ None
dashed_dir [] b h = absurd (let bad : false ≡ true = h in cc)
dashed_dir (x ∷ xs) true h = simp h refl
dashed_dir (x ∷ xs) false h = refl

dashed_word : (word : Text) → is_dashed word ≡ true → bytes_eq word (codes "play") ≡ false
dashed_word word h = go (by_name word)
  where
    go : (word ≡ codes "play") ⊎ ((bytes_eq (codes "play") word ≡ false) × (bytes_eq word (codes "play") ≡ false)) → bytes_eq word (codes "play") ≡ false
    go (inl e) = absurd (let bad : false ≡ true = subst (λ (w : Text). is_dashed w ≡ true) e h in cc)
    go (inr p) = p.1

pub dashed_is_none : (words : List Text) → list_any is_dashed words ≡ true → dir_of words ≡ None
dashed_is_none [] h = refl
dashed_is_none (word ∷ []) h = refl
dashed_is_none (word ∷ dir ∷ []) h = go (is_dashed word) (is_dashed dir) refl refl h
  where
    go : (a b : Bool) → is_dashed word ≡ a → is_dashed dir ≡ b → (a || (b || false)) ≡ true → dir_of (word ∷ dir ∷ []) ≡ None
    go true b e f both = not_play word (dir ∷ []) (dashed_word word e)
    go false true e f both = dashed_dir dir (bytes_eq word (codes "play")) f
    go false false e f both = absurd (let bad : false ≡ true = both in cc)
dashed_is_none (word ∷ dir ∷ other ∷ words) h = refl
