-- Drawing a ticket, watching the number that is served, counting the front, passing on and looking at the front keep the rule.
use Rattle.std.proofs.Common.{◌≡◌, ◌≢◌, ℕ, zero, suc, ◌+◌, ◌^◌, ◌%◌, ◌<◌, ◌≤◌, eqb, List, [], ◌∷◌, ◌++◌, length, set, slice_index, refl, ap, sym, ◌∙◌, subst, inl, inr, arith, length-append, mod-eq_of_lt}
use Rattle.std.specs.Prelude.{Option, Some, nat_eq}
use mathlib.Core.Option.{some, none}
use mathlib.Core.List.{IsPrefix}
use mathlib.Core.Logic.{dite}
use native.Mathlib.Decide.{ℕ_discrete}
use prog.Atomic.{either}
use lib.ListN.{get_elem?}
use Rattle.atomic_table.specs.Table.{State, Me, Act, step, keeps, takes, gives, stepped, Valid, carried_after, put_back, Allows}
use Rattle.atomic_table.proofs.Lists.{set_again, exchanged}
use Rattle.td_turn.specs.declared.rule.View.{View}
use Rattle.td_turn.specs.declared.rule.Stage.{Stage}
use Rattle.td_turn.specs.declared.rule.Stage.TheVariants.{Idle, Waits, Holds}
use Rattle.td_turn.specs.Passes.{numbers_from, versions_after, times, one_if}
use Rattle.td_turn.specs.Views.{total, ticket_at, slot_at, at_stage, taken_view, counted_view, told_view}
use Rattle.td_turn.specs.Rule.{IsServed, AtHome, Draws, Watches, WatchesAt, Counts, Passes, Tells, list_in, first_if, front_of}
use Rattle.td_turn.proofs.Totals.{total_set, total_same, part_le, two_le, total_behind}
use Rattle.td_turn.proofs.Lists.{prefix_self, prefix_same, prefix_trans, prefix_shorter, numbers_append, times_append, times_first, one_if_same}
use Rattle.td_turn.proofs.Seats.{K, fits_set, fits_idle, slot_same}

-- who holds the value has a ticket
pub holding : (stage : Stage) → slot_at stage ≡ 1 → (t : ℕ) × (stage ≡ Holds t)
holding Idle out = absurd (omega arith)
holding (Waits t) out = absurd (omega arith)
holding (Holds t) out = (t, refl)

module _ {S B E : Type 0} (base_of : S → B) (first_of : B → ℕ) (list_of : S → List E) (base : B) where
  abbrev Kept : State (Option S) (View B E) → Type 0
  Kept = K base_of first_of list_of base

  abbrev Served : ℕ → List E → List E → Stage → Type 0
  Served = IsServed base_of first_of list_of base

  abbrev St : Type 0
  St = State (Option S) (View B E)

  abbrev Me' : Type 0
  Me' = Me (Option S) (View B E)

  -- the step goes on, and the word becomes n
  abbrev Goes : St → ℕ → ℕ → Me' → (ℕ → Me' → Type 0) → ℕ → Type 0
  Goes s i id me told n = (w : View B E) × (a : Act (Option S)) × Valid s.homes me.1 a × Kept (stepped s i n id me.1 w a) × told (slice_index s.words i) (w, carried_after me.1 a)

  -- nothing changes
  stays : (s : St) (i id : ℕ) (v : View B E) (c : List (ℕ × Option S)) → get_elem? s.views id ≡ some v → set s.words i (slice_index s.words i) ≡ s.words → Kept s
      → Kept (stepped s i (slice_index s.words i) id c v keeps)
  stays s i id v c at same r =
      let views : set s.views id v ≡ s.views = set_again s.views id v at in
      let all : s ≡ stepped s i (slice_index s.words i) id c v keeps = λ k. record { words = sym same k; homes = s.homes; views = sym views k } in
      subst Kept all r

  -- who does not hold the value has no say in what is served
  unserved : (serving serving' : ℕ) (history history' seen : List E) (stage : Stage) → slot_at stage ≡ 0 → Served serving history seen stage → Served serving' history' seen stage
  unserved serving serving' history history' seen Idle out f = tt
  unserved serving serving' history history' seen (Waits t) out f = tt
  unserved serving serving' history history' seen (Holds t) out f = absurd (omega arith)

  -- who holds the value has the ticket that is served
  ticket_served : (serving : ℕ) (history seen : List E) (stage : Stage) → Served serving history seen stage → slot_at stage ≤ ticket_at serving stage
  ticket_served serving history seen Idle f = omega arith
  ticket_served serving history seen (Waits t) f = omega arith
  ticket_served serving history seen (Holds t) f = omega (arith, one_if_same t serving f.0)

  pub draws : (n id : ℕ) (me : Me') (old : ℕ) → me.0.stage ≡ Idle → 0 < me.0.parts → old + 1 < 2 ^ 64
      → Allows Kept n id me 1 (λ y. either (eqb y old) (old + 1) y) (Draws base_of first_of list_of (step n 1 old (old + 1) none) me)
  draws n id me old idle part small s r wide at _ =
      let y : ℕ = slice_index s.words 1 in
      let told = Draws base_of first_of list_of (step n 1 old (old + 1) none) me in
      exchanged y old (old + 1) (Goes s 1 id me told)
      (λ hit. (at_stage (Waits old) me.0, keeps, tt, drawn hit, ((λ _. (refl, refl)), (λ ne. absurd (ne hit)))))
      (λ miss. (me.0, keeps, tt, stays s 1 id me.0 me.1 at (ap (λ ws. set ws 1 (slice_index ws 1)) r.words ∙ sym r.words) r, ((λ hit. absurd (miss hit)), (λ _. refl))))
    where
      drawn : slice_index s.words 1 ≡ old → Kept (stepped s 1 (old + 1) id me.1 (at_stage (Waits old) me.0) keeps)
      drawn hit =
          let w = at_stage (Waits old) me.0 in
          let next : old ≡ r.serving + r.holders = sym hit ∙ ap (λ ws. slice_index ws 1) r.words in
          let more : old + 1 ≡ r.serving + suc r.holders = omega arith in
          let f = r.each id me.0 at in
          record {
            history = r.history;
            serving = r.serving;
            holders = suc r.holders;
            words = ap (λ ws. set ws 1 (old + 1)) r.words ∙ ap (λ k. length r.history ∷ k ∷ r.serving ∷ []) more;
            room = omega arith;
            tickets = λ t.
                let none_had = ap (ticket_at t) idle in
                let adds = total_set (λ u. ticket_at t u.stage) s.views id me.0 w at in
                let was = r.tickets t in
                let all = ap (times t) (numbers_append r.serving r.holders 1 (suc r.holders) old (omega arith) next) in
                let parts = times_append t (numbers_from r.serving r.holders) (old ∷ []) in
                omega arith;
            slot = slot_same base_of first_of list_of base r.history s.homes _ _ (sym (total_same (λ u. slot_at u.stage) s.views id me.0 w at (sym (ap slot_at idle)))) r.slot;
            each = fits_set base_of first_of list_of base s.views id w r.serving r.history (λ j u _ e. r.each j u e)
                record { seen = f.seen; also = f.also; served = tt; spent = λ none_left. absurd (omega arith) };
            versions = λ x. total_same (λ u. times x u.versions) s.views id me.0 w at refl ∙ r.versions x;
            parts = total_same (λ u. u.parts) s.views id me.0 w at refl ∙ r.parts;
          }

  pub watches : (n id : ℕ) (me : Me') (ticket : ℕ) → me.0.stage ≡ Waits ticket → 0 < me.0.parts → me.0.base ≡ Some base
      → Allows Kept n id me 2 (λ y. y) (Watches base_of first_of list_of (step n 2 0 0 none) me)
  watches n id me ticket waits part based s r wide at _ =
      let y : ℕ = slice_index s.words 2 in
      let told : ℕ → Me' → Type 0 = λ found m'. WatchesAt base_of first_of list_of me.0.stage me found m' in
      dite (ℕ_discrete y ticket)
      (λ hit. elim r.slot [
        | inl home ↦
            let w = taken_view ticket (list_of home.0) me.0 in (
              w,
              takes 0 (Some home.0),
              ap (λ hs. get_elem? hs 0) home.1,
              taken hit home,
              subst (λ (st : Stage). WatchesAt base_of first_of list_of st me y (w, (0, Some home.0) ∷ me.1)) (sym waits)
                  ((λ _. (home.0, ap Some home.2 ∙ sym based, subst (λ (l : List E). IsPrefix me.0.seen l) (sym home.3) (r.each id me.0 at).seen, refl, refl)), (λ ne. absurd (ne hit))),
            )
        | inr out ↦ absurd (alone hit out.1)
      ])
      (λ miss. (
        me.0,
        keeps,
        tt,
        stays s 2 id me.0 me.1 at (ap (λ ws. set ws 2 (slice_index ws 2)) r.words ∙ sym r.words) r,
        subst (λ (st : Stage). WatchesAt base_of first_of list_of st me y me) (sym waits) ((λ hit. absurd (miss hit)), (λ _. refl)),
      ))
    where
      served : slice_index s.words 2 ≡ ticket → ticket ≡ r.serving
      served hit = sym hit ∙ ap (λ ws. slice_index ws 2) r.words

      -- nobody else has the slot
      alone : slice_index s.words 2 ≡ ticket → total (λ u. slot_at u.stage) s.views ≡ 1 → ⊥
      alone hit out =
          let behind = total_behind (λ u. slot_at u.stage) (λ u. ticket_at r.serving u.stage) s.views id me.0 (λ j u e. ticket_served r.serving r.history u.seen u.stage (r.each j u e).served) at in
          let once = times_first r.serving r.holders in
          let all = r.tickets r.serving in
          let mine = ap (ticket_at r.serving) waits in
          let same = one_if_same ticket r.serving (served hit) in
          let not_mine = ap slot_at waits in
          omega arith

      taken : (hit : slice_index s.words 2 ≡ ticket) (home : AtHome base_of first_of list_of base r.history s.homes (total (λ u. slot_at u.stage) s.views))
          → Kept (stepped s 2 (slice_index s.words 2) id me.1 (taken_view ticket (list_of home.0) me.0) (takes 0 (Some home.0)))
      taken hit home =
          let w = taken_view ticket (list_of home.0) me.0 in
          let f = r.each id me.0 at in
          record {
            history = r.history;
            serving = r.serving;
            holders = r.holders;
            words = ap (λ ws. set ws 2 (slice_index ws 2)) r.words;
            room = r.room;
            tickets = λ t. total_same (λ u. ticket_at t u.stage) s.views id me.0 w at (sym (ap (ticket_at t) waits)) ∙ r.tickets t;
            slot = inr (
              ap (λ hs. set hs 0 none) home.1,
              let adds = total_set (λ u. slot_at u.stage) s.views id me.0 w at in
                  let none_mine = ap slot_at waits in
                  let none_out = home.4 in
                  omega arith,
            );
            each = fits_set base_of first_of list_of base s.views id w r.serving r.history (λ j u _ e. r.each j u e)
                record { seen = prefix_same (list_of home.0) r.history home.3; also = f.also; served = (served hit, home.3); spent = λ none_left. absurd (omega arith) };
            versions = λ x. total_same (λ u. times x u.versions) s.views id me.0 w at refl ∙ r.versions x;
            parts = total_same (λ u. u.parts) s.views id me.0 w at refl ∙ r.parts;
          }

  -- the one view that holds the value: the slot is out, and no other view holds it
  abbrev HasOut : (s : St) → ℕ → Type 0
  HasOut s id = (s.homes ≡ none ∷ []) × (total (λ u. slot_at u.stage) s.views ≡ 1) × ((j : ℕ) (u : View B E) → j ≢ id → get_elem? s.views j ≡ some u → slot_at u.stage ≡ 0)

  has_out : (s : St) (r : Kept s) (id : ℕ) (v : View B E) (ticket : ℕ) → v.stage ≡ Holds ticket → get_elem? s.views id ≡ some v → HasOut s id
  has_out s r id v ticket holds at =
      let mine = ap slot_at holds in
      let one = part_le (λ u. slot_at u.stage) s.views id v at in
      elim r.slot [
        | inl home ↦ absurd (let none_out = home.4 in omega arith)
        | inr out ↦ (
          out.0,
          out.1,
          λ j u apart e. let two = two_le (λ (x : View B E). slot_at x.stage) s.views id j v u at e apart in let is_one = out.1 in omega arith,
        )
      ]

  -- the holder has the ticket that is served, and has seen the history
  holder : (s : St) (r : Kept s) (id : ℕ) (v : View B E) (ticket : ℕ) → v.stage ≡ Holds ticket → get_elem? s.views id ≡ some v → (ticket ≡ r.serving) × (v.seen ≡ r.history)
  holder s r id v ticket holds at = subst (Served r.serving r.history v.seen) holds (r.each id v at).served

  pub counts : (n id k : ℕ) (me : Me') (ticket : ℕ) (x : S) (new : List E) → me.0.stage ≡ Holds ticket → 0 < me.0.parts → me.0.base ≡ Some base → me.1 ≡ (0, Some x) ∷ []
      → list_of x ≡ me.0.seen ++ new → length new ≡ k → first_of base + length (list_of x) < 2 ^ 64
      → Allows Kept n id me 0 (λ y. (y + k) % 2 ^ 64) (Counts base_of first_of list_of (step n 0 k 0 none) me)
  counts n id k me ticket x new holds part based carries grows long room s r wide at _ =
      (counted_view (front_of base_of first_of list_of me.0) k (list_in base_of first_of list_of me.1) me.0, keeps, tt, counted, (refl, refl))
    where
      counted : Kept (stepped s 0 ((slice_index s.words 0 + k) % 2 ^ 64) id me.1 (counted_view (front_of base_of first_of list_of me.0) k (list_in base_of first_of list_of me.1) me.0) keeps)
      counted =
          let list : List E = list_in base_of first_of list_of me.1 in
          let front : ℕ = front_of base_of first_of list_of me.0 in
          let w : View B E = counted_view front k list me.0 in
          let h : List E = r.history in
          let f = r.each id me.0 at in
          let mine = holder s r id me.0 ticket holds at in
          let gone = has_out s r id me.0 ticket holds at in
          let is : list ≡ list_of x = ap (list_in base_of first_of list_of) carries in
          let on : list ≡ h ++ new = is ∙ (grows ∙ ap (λ (l : List E). l ++ new) mine.1) in
          let longer : IsPrefix h list = (new, sym on) in
          let many : length list ≡ length h + k = ap length on ∙ (length-append h new ∙ ap (λ (j : ℕ). length h + j) long) in
          let below : length list < 2 ^ 64 = subst (λ (l : List E). length l < 2 ^ 64) (sym is) (omega arith) in
          let found : slice_index s.words 0 ≡ length h = ap (λ ws. slice_index ws 0) r.words in
          let sum : slice_index s.words 0 + k ≡ length list = omega arith in
          let counted_to : (slice_index s.words 0 + k) % 2 ^ 64 ≡ length list = ap (λ (j : ℕ). j % 2 ^ 64) sum ∙ mod-eq_of_lt below in
          let from : front ≡ first_of base + length h = ap (λ (b : Option B). first_if base_of first_of list_of b + length me.0.seen) based ∙ ap (λ (l : List E). first_of base + length l) mine.1 in
          record {
            history = list;
            serving = r.serving;
            holders = r.holders;
            words = ap (λ ws. set ws 0 ((slice_index s.words 0 + k) % 2 ^ 64)) r.words ∙ ap (λ j. j ∷ (r.serving + r.holders) ∷ r.serving ∷ []) counted_to;
            room = r.room;
            tickets = λ t. total_same (λ u. ticket_at t u.stage) s.views id me.0 w at refl ∙ r.tickets t;
            slot = inr (gone.0, total_same (λ u. slot_at u.stage) s.views id me.0 w at refl ∙ gone.1);
            each = fits_set base_of first_of list_of base s.views id w r.serving list
                (λ j u apart e.
                let g = r.each j u e in
                record {
                  seen = prefix_trans u.seen h list g.seen longer;
                  also = prefix_trans u.also h list g.also longer;
                  served = unserved r.serving r.serving h list u.seen u.stage (gone.2 j u apart e) g.served;
                  spent = g.spent;
                })
                record {
                  seen = prefix_self list;
                  also = prefix_trans me.0.also h list f.also longer;
                  served = subst (Served r.serving list list) (sym holds) (mine.0, refl);
                  spent = λ none_left. absurd (omega arith);
                };
            versions = λ v.
                let adds = total_set (λ u. times v u.versions) s.views id me.0 w at in
                let was = r.versions v in
                let noted = times_append v me.0.versions (versions_after front k) in
                let all = ap (times v) (numbers_append (suc (first_of base)) (length h) k (length list) (suc front) many (omega arith)) in
                let apart = times_append v (versions_after (first_of base) (length h)) (versions_after front k) in
                omega arith;
            parts = total_same (λ u. u.parts) s.views id me.0 w at refl ∙ r.parts;
          }

  pub passes : (n id : ℕ) (me : Me') (ticket : ℕ) (x : S) → me.0.stage ≡ Holds ticket → 0 < me.0.parts → me.1 ≡ (0, Some x) ∷ [] → base_of x ≡ base → list_of x ≡ me.0.seen
      → Allows Kept n id me 2 (λ y. (y + 1) % 2 ^ 64) (Passes base_of first_of list_of (step n 2 1 0 none) me)
  passes n id me ticket x holds part carries based whole s r wide at _ = (at_stage Idle me.0, gives, tt, passed r.holders refl, (refl, refl))
    where
      passed : (m : ℕ) → r.holders ≡ m → Kept (stepped s 2 ((slice_index s.words 2 + 1) % 2 ^ 64) id me.1 (at_stage Idle me.0) gives)
      passed zero none_left =
          let one = part_le (λ u. ticket_at r.serving u.stage) s.views id me.0 at in
          let had = ap (ticket_at r.serving) holds in
          let is = one_if_same ticket r.serving (holder s r id me.0 ticket holds at).0 in
          let all = r.tickets r.serving ∙ ap (λ (m : ℕ). times r.serving (numbers_from r.serving m)) none_left in
          absurd (omega arith)
      passed (suc m) left =
          let w : View B E = at_stage Idle me.0 in
          let h : List E = r.history in
          let f = r.each id me.0 at in
          let mine = holder s r id me.0 ticket holds at in
          let gone = has_out s r id me.0 ticket holds at in
          let found : slice_index s.words 2 ≡ r.serving = ap (λ ws. slice_index ws 2) r.words in
          let all : r.serving + r.holders ≡ suc r.serving + m = omega arith in
          let room : suc r.serving < 2 ^ 64 = let fits = r.room in omega arith in
          let next : slice_index s.words 2 + 1 ≡ suc r.serving = omega arith in
          let served : (slice_index s.words 2 + 1) % 2 ^ 64 ≡ suc r.serving = ap (λ (j : ℕ). j % 2 ^ 64) next ∙ mod-eq_of_lt room in
          record {
            history = h;
            serving = suc r.serving;
            holders = m;
            words = ap (λ ws. set ws 2 ((slice_index s.words 2 + 1) % 2 ^ 64)) r.words ∙ (λ i. length h ∷ all i ∷ served i ∷ []);
            room = let fits = r.room in omega arith;
            tickets = λ t.
                let adds = total_set (λ u. ticket_at t u.stage) s.views id me.0 w at in
                let had = ap (ticket_at t) holds ∙ ap (λ (j : ℕ). one_if (nat_eq j t)) mine.0 in
                let was = r.tickets t ∙ ap (λ (j : ℕ). times t (numbers_from r.serving j)) left in
                omega arith;
            slot = inl (
              x,
              ap (put_back s.homes) carries ∙ ap (λ hs. set hs 0 (some (Some x))) gone.0,
              based,
              whole ∙ mine.1,
              let adds = total_set (λ u. slot_at u.stage) s.views id me.0 w at in
                  let had = ap slot_at holds in
                  let one = gone.1 in
                  omega arith,
            );
            each = fits_set base_of first_of list_of base s.views id w (suc r.serving) h
                (λ j u apart e.
                let g = r.each j u e in
                record { seen = g.seen; also = g.also; served = unserved r.serving (suc r.serving) h h u.seen u.stage (gone.2 j u apart e) g.served; spent = g.spent })
                record { seen = f.seen; also = f.also; served = tt; spent = λ none_left. absurd (omega arith) };
            versions = λ v. total_same (λ u. times v u.versions) s.views id me.0 w at refl ∙ r.versions v;
            parts = total_same (λ u. u.parts) s.views id me.0 w at refl ∙ r.parts;
          }

  pub tells : (n id : ℕ) (me : Me') → me.0.stage ≡ Idle → 0 < me.0.parts → Allows Kept n id me 0 (λ y. y) (Tells base_of first_of list_of (step n 0 0 0 none) me)
  tells n id me idle part s r wide at _ =
      let w : View B E = told_view me.0 in
      let f = r.each id me.0 at in (
        w,
        keeps,
        tt,
        record {
          history = r.history;
          serving = r.serving;
          holders = r.holders;
          words = ap (λ ws. set ws 0 (slice_index ws 0)) r.words;
          room = r.room;
          tickets = λ t. total_same (λ u. ticket_at t u.stage) s.views id me.0 w at refl ∙ r.tickets t;
          slot = slot_same base_of first_of list_of base r.history s.homes _ _ (sym (total_same (λ u. slot_at u.stage) s.views id me.0 w at refl)) r.slot;
          each = fits_set base_of first_of list_of base s.views id w r.serving r.history (λ j u _ e. r.each j u e)
              (fits_idle base_of first_of list_of base r.serving r.history w part idle f.seen (r.history, refl));
          versions = λ x. total_same (λ u. times x u.versions) s.views id me.0 w at refl ∙ r.versions x;
          parts = total_same (λ u. u.parts) s.views id me.0 w at refl ∙ r.parts;
        },
        (refl, refl, prefix_shorter me.0.also me.0.seen r.history f.also f.seen),
      )
