-- A split, a join, a look at the front, the opening and the closing keep the rule.
use Rattle.std.proofs.Common.{◌≡◌, ◌≢◌, ◌⊎◌, ℕ, zero, suc, ◌+◌, ◌<◌, ◌≤◌, List, [], ◌∷◌, ◌++◌, length, set, refl, ap, sym, ◌∙◌, subst, inl, inr, ⊎_elim, arith}
use Rattle.std.specs.Prelude.{Option, Some}
use mathlib.Core.Option.{some, none, some-injective, some-ne-none}
use mathlib.Core.Option as maybe
use mathlib.Core.List.{IsPrefix}
use lib.ListN.{get_elem?}
use Rattle.atomic_table.specs.Table.{State, Me, opening, Splits, Joins, Final, Seen}
use Rattle.atomic_table.proofs.Lists.{at_set, at_snoc}
use Rattle.td_limits.specs.declared.limits.TheConstants.{PASS_PARTS}
use Rattle.td_turn.specs.declared.rule.View.{View}
use Rattle.td_turn.specs.declared.rule.Stage.TheVariants.{Idle}
use Rattle.td_turn.specs.Passes.{versions_after, times}
use Rattle.td_turn.specs.Views.{total, ticket_at, slot_at, opening_view, spent_view, kept_view, new_view, joined_view}
use Rattle.td_turn.specs.Rule.{IsServed, Fits, AtHome, IsOut, IsKept}
use Rattle.td_turn.proofs.Totals.{total_set, total_push, total_alone}
use Rattle.td_turn.proofs.Lists.{second_is, times_append}

module _ {S B E : Type 0} (base_of : S → B) (first_of : B → ℕ) (list_of : S → List E) (base : B) where
  abbrev pub K : State (Option S) (View B E) → Type 0
  K = IsKept base_of first_of list_of base

  abbrev pub Fit : ℕ → List E → View B E → Type 0
  Fit = Fits base_of first_of list_of base

  abbrev pub M : Type 0
  M = Me (Option S) (View B E)

  pub fits_set : (views : List (View B E)) (id : ℕ) (w : View B E) (serving : ℕ) (history : List E) → ((j : ℕ) (u : View B E) → j ≢ id → get_elem? views j ≡ some u → Fit serving history u) → Fit serving history w
      → (j : ℕ) (u : View B E) → get_elem? (set views id w) j ≡ some u → Fit serving history u
  fits_set views id w serving history others mine j u at =
      ⊎_elim (λ (t : (j ≡ id) × (w ≡ u)). subst (Fit serving history) t.1 mine) (λ (t : (j ≢ id) × (get_elem? views j ≡ some u)). others j u t.0 t.1) (at_set views id j w u at)

  -- an idle view with a part fits where what it saw begins the history
  pub fits_idle : (serving : ℕ) (history : List E) (v : View B E) → 0 < v.parts → v.stage ≡ Idle → IsPrefix v.seen history → IsPrefix v.also history → Fit serving history v
  fits_idle serving history v part idle seen also = record {
    seen = seen;
    also = also;
    served = subst (IsServed base_of first_of list_of base serving history v.seen) (sym idle) tt;
    spent = λ none_left. absurd (omega arith);
  }

  pub slot_same : (history : List E) (homes : List (maybe.Option (Option S))) (out out' : ℕ) → out ≡ out'
      → AtHome base_of first_of list_of base history homes out ⊎ IsOut base_of first_of list_of base homes out
      → AtHome base_of first_of list_of base history homes out' ⊎ IsOut base_of first_of list_of base homes out'
  slot_same history homes out out' same = subst (λ (n : ℕ). AtHome base_of first_of list_of base history homes n ⊎ IsOut base_of first_of list_of base homes n) same

  pub splits : (id : ℕ) (v : View B E) → v.stage ≡ Idle → 2 ≤ v.parts → Splits K id v (kept_view v) (new_view v)
  splits id v idle parts s r at =
      let views = s.views in
      let same = λ (f : View B E → ℕ) (adds : f (kept_view v) + f (new_view v) ≡ f v).
      let all : total f (set views id (kept_view v) ++ new_view v ∷ []) ≡ total f views =
      omega (arith, total_push f (set views id (kept_view v)) (new_view v), total_set f views id v (kept_view v) at) in
      all in
      let f = r.each id v at in
      record {
        history = r.history;
        serving = r.serving;
        holders = r.holders;
        words = r.words;
        room = r.room;
        tickets = λ t. same (λ u. ticket_at t u.stage) (omega arith) ∙ r.tickets t;
        slot = slot_same r.history s.homes _ _ (sym (same (λ u. slot_at u.stage) (omega arith))) r.slot;
        each = λ j u there.
            ⊎_elim
            (λ (old : get_elem? (set views id (kept_view v)) j ≡ some u).
            fits_set views id (kept_view v) r.serving r.history (λ i x _ e. r.each i x e) (fits_idle r.serving r.history (kept_view v) (omega arith) idle f.seen f.also) j u old)
            (λ (new : new_view v ≡ u). subst (Fit r.serving r.history) new (fits_idle r.serving r.history (new_view v) (omega arith) refl f.seen (r.history, refl)))
            (at_snoc (set views id (kept_view v)) (new_view v) u j there);
        versions = λ x. same (λ u. times x u.versions) (omega arith) ∙ r.versions x;
        parts = same (λ u. u.parts) (omega arith) ∙ r.parts;
      }

  pub joins : (id : ℕ) (v : View B E) (other : ℕ) (w : View B E) → v.stage ≡ Idle → w.stage ≡ Idle → 0 < v.parts → Joins K id v other w (joined_view v w) spent_view
  joins id v other w idle idle' part s r at apart there =
      let views = s.views in
      let both = joined_view v w in
      let here : get_elem? views other ≡ some w =
      ⊎_elim (λ (t : (other ≡ id) × (both ≡ w)). absurd (apart t.0)) (λ (t : (other ≢ id) × (get_elem? views other ≡ some w)). t.1) (at_set views id other both w there) in
      let same = λ (f : View B E → ℕ) (adds : f both ≡ f v + f w) (none_left : f spent_view ≡ 0).
      let all : total f (set (set views id both) other spent_view) ≡ total f views =
      omega (arith, total_set f (set views id both) other w spent_view there, total_set f views id v both at) in
      all in
      let f = r.each id v at in
      let g = r.each other w here in
      let P : List E → Type 0 = λ xs. IsPrefix xs r.history in
      record {
        history = r.history;
        serving = r.serving;
        holders = r.holders;
        words = r.words;
        room = r.room;
        tickets = λ t.
            let a = ap (ticket_at t) idle in
            let b = ap (ticket_at t) idle' in
            same (λ u. ticket_at t u.stage) (omega arith) refl ∙ r.tickets t;
        slot =
            let a = ap slot_at idle in
            let b = ap slot_at idle' in
            slot_same r.history s.homes _ _ (sym (same (λ u. slot_at u.stage) (omega arith) refl)) r.slot;
        each = fits_set (set views id both) other spent_view r.serving r.history
            (λ j u _ e. fits_set views id both r.serving r.history (λ i x _ d. r.each i x d)
            (fits_idle r.serving r.history both (omega arith) refl (second_is P _ v.seen w.seen f.seen g.seen) (second_is P _ w.seen v.seen g.seen f.seen)) j u e)
            record { seen = (r.history, refl); also = (r.history, refl); served = tt; spent = λ _. (refl, refl, refl) };
        versions = λ x. same (λ u. times x u.versions) (times_append x v.versions w.versions) refl ∙ r.versions x;
        parts = same (λ u. u.parts) refl refl ∙ r.parts;
      }

  pub opens : (x : S) → base_of x ≡ base → list_of x ≡ [] → K (opening (0 ∷ 0 ∷ 0 ∷ []) (Some x ∷ []) (opening_view base))
  opens x based empty = record {
    history = [];
    serving = 0;
    holders = 0;
    words = refl;
    room = omega arith;
    tickets = λ t. refl;
    slot = inl (x, refl, based, empty, refl);
    each = fits_one;
    versions = λ x. refl;
    parts = omega arith;
  }
    where
      fits_one : (j : ℕ) (v : View B E) → get_elem? (opening_view base ∷ []) j ≡ some v → Fit 0 [] v
      fits_one zero v e = subst (Fit 0 []) (some-injective _ _ e) (fits_idle 0 [] (opening_view base) (omega arith) refl ([], refl) ([], refl))
      fits_one (suc j) v e = absurd (some-ne-none v (sym e))

  -- what a value is that stands at home at the end, for the view that has all parts
  abbrev pub IsLast : View B E → S → Type 0
  IsLast v x = (base_of x ≡ base) × IsPrefix v.seen (list_of x) × ((n : ℕ) → times n v.versions ≡ times n (versions_after (first_of base) (length (list_of x))))

  pub closes : (id : ℕ) (v : View B E) (ws : List ℕ) (xs : List (Option S)) → v.stage ≡ Idle → v.parts ≡ PASS_PARTS → Final (Seen K id v) ws xs → (x : S) × (get_elem? xs 0 ≡ some (Some x)) × IsLast v x
  closes id v ws xs idle all end =
      let s = end.0 in
      let r = end.1.0 in
      let at = end.1.1 in
      let whole : total (λ u. u.parts) s.views ≡ v.parts = r.parts ∙ sym all in
      let out : total (λ u. slot_at u.stage) s.views ≡ 0 =
      total_alone (λ u. u.parts) (λ u. slot_at u.stage) s.views id v (λ j u e none_left. ap slot_at ((r.each j u e).spent none_left).0) at whole ∙ ap slot_at idle in
      let noted = λ (n : ℕ). total_alone (λ u. u.parts) (λ u. times n u.versions) s.views id v (λ j u e none_left. ap (times n) ((r.each j u e).spent none_left).1) at whole in
      elim r.slot [
        | inl home ↦ (
          home.0,
          end.4 0 (Some home.0) (ap (λ hs. get_elem? hs 0) home.1),
          (
            home.2,
            subst (λ (l : List E). IsPrefix v.seen l) (sym home.3) (r.each id v at).seen,
            λ n. sym (noted n) ∙ r.versions n ∙ ap (λ (l : List E). times n (versions_after (first_of base) (length l))) (sym home.3),
          ),
        )
        | inr gone ↦ absurd (let one = gone.1 in omega arith)
      ]
