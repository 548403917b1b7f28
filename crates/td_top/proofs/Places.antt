-- What comes of a script on a core, on its store, and on the store's place.
use Rattle.std.proofs.Common.{◌≡◌, ◌⊎◌, inl, inr, ℕ, ◌≤◌, List, Option, Some, None, refl, sym, ap, ◌∙◌, subst, arith}
use Rattle.std.specs.Prelude.{IfSome}
use Rattle.std.specs.Option.{option_map}
use Rattle.std.specs.Io.KnownBytes.{Keeps}
use Rattle.td_outside.specs.Causes.{Rose, raised}
use Rattle.td_outside.specs.Image.{Image, Along, at_rest}
use Rattle.td_model.specs.declared.history.Entry.{Entry}
use Rattle.td_model.specs.State.{State}
use Rattle.td_model.specs.State as state
use Rattle.td_core.specs.declared.causes.FileId.{FileId}
use Rattle.td_core.specs.declared.causes.FileId.TheVariants as file
use Rattle.td_core.specs.declared.causes.OpenCause.{OpenCause}
use Rattle.td_core.specs.declared.causes.OpenCause.TheVariants as open_cause
use Rattle.td_core.specs.CoreState.{CoreState}
use Rattle.td_core.specs.Covers.{Covers, ImageIsBy, Facts}
use Rattle.td_core.specs.Stands.{Stands}
use Rattle.td_core.specs.Breaks.{BreaksFirst}
use Rattle.td_core.specs.Opening.{StandAlike, Tidies, CountIsBy, BreaksBy}
use Rattle.td_core.proofs.Standing.{one_state}
use Rattle.td_script.specs.declared.lines.Line.{Line}
use Rattle.td_top.specs.Turns.{PlayedText, HaltsBy, HaltCause, LeavesBy}
use Rattle.td_top.specs.declared.status.Status.{Status}
use Rattle.td_top.specs.declared.status.Status.TheVariants as status
use Rattle.td_top.specs.Status.{Effects, Plays, Unopened, Unleft, Strange, GoesOn, Starves, PlaysCore, PlaysAt, open_status, left_status}

-- ---- a core that was opened and played on

-- the image, where it is told, is what the entries make of it
left_by : (c : CoreState) (b : State) (h : List Entry) (opened : Option (List ℕ)) → Covers opened c b h → LeavesBy b h c.told
left_by c b h opened covers =
    let halt : c.state.halt ≡ (state.after b h).halt = ap (λ (f : Facts). f.halt) covers.facts in
    subst (λ (o : Option ℕ). IfSome c.told (λ i. ImageIsBy o i b h)) halt covers.image

halt_cause : (rs : List (ℕ × ℕ × _)) (before now : ℕ) → HaltsBy rs before now → HaltCause rs before now
halt_cause rs before now (inl h) = inl h.0
halt_cause rs before now (inr h) = inr h.1

-- where both are told, what is left goes on
goes_on_both : (told told' : Option Image) (b : State) (h : List Entry) → IfSome told (λ image. Stands image b) → LeavesBy b h told' → IfSome told (λ old. IfSome told' (GoesOn old))
goes_on_both None told' b h stands left = tt
goes_on_both (Some old) None b h stands left = tt
goes_on_both (Some old) (Some new) b h stands left = inr (λ a s. let same : b ≡ a = one_state old b a stands s in (h, subst (λ (x : State). ImageIsBy (state.after x h).halt new x h) same left))

module _ (lines : List Line) (readings written written' : Option (List ℕ)) (faults faults' : ℕ) (told : Option Image) (count : ℕ) (c c' : CoreState) (stands : IfSome told (λ image. Stands image c.state)) (open_base : c.state.halt ≡ None) (clock : c.readings ≡ readings) (opened : c.count ≡ count) where
  -- what stands outside, before and after
  abbrev begin : Effects
  begin = record { written = written; output_faults = faults; image = told; place_faults = 0; taken = count }

  abbrev end : Effects
  end = record { written = written'; output_faults = faults'; image = c'.told; place_faults = 0; taken = c'.count }

  plays : (text : List ℕ) → PlayedText c c' lines text → Plays readings lines begin end text
  plays text p =
      let played = p.played in
      let own : Plays c.readings lines begin end text = record {
        base = c.state;
        stands = stands;
        open_base = open_base;
        report = p.report;
        told = played.tells;
        counts = p.counts;
        text_is = p.text_is;
        left = left_by c' c.state played.tells.told.told.entries c.readings played.covers;
        cause = subst (λ n. HaltCause p.report.replies n c'.count) opened (halt_cause p.report.replies c.count c'.count played.cause);
      } in
      subst (λ (r : Option (List ℕ)). Plays r lines begin end text) clock own

  pub on_core : (s : Status) → PlaysCore lines c c' written written' faults faults' s → PlaysAt readings lines begin end s
  on_core status.Done h = (h.0, plays h.0 h.1, h.2, h.3, refl)
  on_core status.NoMemory h = record {
    nothing = (h.1, h.2);
    image = goes_on_both told c'.told c.state h.0.0 stands (left_by c' c.state h.0.0 c.readings h.0.1);
  }
  on_core status.Usage h = absurd h
  on_core (status.BadScript line) h = absurd h
  on_core status.TooLarge h = absurd h
  on_core status.InputFault h = absurd h
  on_core status.OutputFault h = (h.0, plays h.0 h.1, h.2, h.3)
  on_core status.StoreFault h = absurd h
  on_core (status.NotThisStore file at) h = absurd h

-- ---- a store that wasn't opened

alike_both : (told told' : Option Image) → Along Tidies told told' → Along StandAlike told told'
alike_both None None h = tt
alike_both (Some old) (Some new) h = h.alike
alike_both None (Some new) h = absurd h
alike_both (Some old) None h = absurd h

alike_goes_on : (told told' : Option Image) → Along Tidies told told' → IfSome told (λ old. IfSome told' (GoesOn old))
alike_goes_on None told' h = tt
alike_goes_on (Some old) None h = tt
alike_goes_on (Some old) (Some new) h = inl h.alike

module _ (lines : List Line) (readings written : Option (List ℕ)) (nothing : Keeps written written) (faults : ℕ) (told told' : Option Image) (count count' : ℕ) (tidy : Along Tidies told told') where
  pub not_opened : (cause : OpenCause) → IfSome told (BreaksBy cause) → (cause ≡ open_cause.StoreFault → ⊥) → told' ≡ told → CountIsBy cause count count' → PlaysAt readings lines (record { written = written; output_faults = faults; image = told; place_faults = 0; taken = count }) (record { written = written; output_faults = faults; image = told'; place_faults = 0; taken = count' }) (open_status cause)
  not_opened open_cause.StoreFault strange other same fault = absurd (other refl)
  not_opened (open_cause.NotThisStore file at) strange other same fault = record { nothing = (nothing, refl); breaks = strange; image = ap (λ (o : Option Image). option_map at_rest o) same }
  not_opened open_cause.NoMemory strange other same fault = record { nothing = (nothing, refl); image = alike_goes_on told told' tidy }

  pub faulty : CountIsBy open_cause.StoreFault count count' → PlaysAt readings lines (record { written = written; output_faults = faults; image = told; place_faults = 0; taken = count }) (record { written = written; output_faults = faults; image = told'; place_faults = 0; taken = count' }) status.StoreFault
  faulty fault = inl (record { nothing = (nothing, refl); cause = inr fault.1; alike = alike_both told told' tidy })

  -- whatever the cause is
  pub unopened_says : (cause : OpenCause) → IfSome told (BreaksBy cause) → ((cause ≡ open_cause.StoreFault → ⊥) → told' ≡ told) → CountIsBy cause count count' → PlaysAt readings lines (record { written = written; output_faults = faults; image = told; place_faults = 0; taken = count }) (record { written = written; output_faults = faults; image = told'; place_faults = 0; taken = count' }) (open_status cause)
  unopened_says open_cause.StoreFault strange same fault = faulty fault
  unopened_says (open_cause.NotThisStore file at) strange same fault = not_opened (open_cause.NotThisStore file at) strange (λ e. cc) (same (λ e. cc)) fault
  unopened_says open_cause.NoMemory strange same fault = not_opened open_cause.NoMemory strange (λ e. cc) (same (λ e. cc)) fault

-- ---- a place

-- a store at rest stands for the same, and breaks where it did
rest_stands : (told : Option Image) (b : State) → IfSome (option_map at_rest told) (λ image. Stands image b) → IfSome told (λ image. Stands image b)
rest_stands None b h = tt
rest_stands (Some image) b h = record { head = h.head; older = h.older; newer = h.newer; first_log = h.first_log; second_log = h.second_log; in_order = h.in_order; replays = h.replays }

to_rest : (image : Image) (b : State) → Stands image b → Stands (at_rest image) b
to_rest image b h = record { head = h.head; older = h.older; newer = h.newer; first_log = h.first_log; second_log = h.second_log; in_order = h.in_order; replays = h.replays }

rest_breaks : (told : Option Image) (f : FileId) (at : ℕ) → IfSome (option_map at_rest told) (λ image. BreaksFirst image f at) → IfSome told (λ image. BreaksFirst image f at)
rest_breaks None f at h = tt
rest_breaks (Some image) file.Head at h = h
rest_breaks (Some image) (file.Log n) at h = h
rest_breaks (Some image) (file.File n) at h = h

from_rest : (image : Image) (b : State) → Stands (at_rest image) b → Stands image b
from_rest image b h = rest_stands (Some image) b h

rest_alike : (told told' : Option Image) → Along StandAlike (option_map at_rest told) told' → Along StandAlike told told'
rest_alike None None h = tt
rest_alike (Some old) (Some new) h = λ s. ((λ p. (h s).0 (to_rest old s p)), (λ p. from_rest old s ((h s).1 p)))
rest_alike None (Some new) h = absurd h
rest_alike (Some old) None h = absurd h

rest_one : (old new : Image) → GoesOn (at_rest old) new → GoesOn old new
rest_one old new (inl alike) = inl (λ s. ((λ p. (alike s).0 (to_rest old s p)), (λ p. from_rest old s ((alike s).1 p))))
rest_one old new (inr on) = inr (λ b s. on b (to_rest old b s))

rest_goes_on : (told told' : Option Image) → IfSome (option_map at_rest told) (λ old. IfSome told' (GoesOn old)) → IfSome told (λ old. IfSome told' (GoesOn old))
rest_goes_on None told' h = tt
rest_goes_on (Some old) None h = tt
rest_goes_on (Some old) (Some new) h = rest_one old new h

rest_twice : (told : Option Image) → option_map at_rest (option_map at_rest told) ≡ option_map at_rest told
rest_twice None = refl
rest_twice (Some image) = refl

taken_rose : (count taken taken' : ℕ) → Rose 0 count → raised taken count ≤ taken' → Rose taken taken'
taken_rose count taken taken' rose over = omega (arith, rose, over)

halts_taken : (rs : List (ℕ × ℕ × _)) (count taken taken' : ℕ) → HaltCause rs 0 count → raised taken count ≤ taken' → HaltCause rs taken taken'
halts_taken rs count taken taken' (inl none) over = inl none
halts_taken rs count taken taken' (inr rose) over = inr (taken_rose count taken taken' rose over)

module _ (lines : List Line) (readings written written' : Option (List ℕ)) (faults faults' : ℕ) (told told' : Option Image) (count taken taken' : ℕ) (over : raised taken count ≤ taken') where
  -- what stands outside of the store, as it was entered and as it is left
  abbrev entered : Effects
  entered = record { written = written; output_faults = faults; image = option_map at_rest told; place_faults = 0; taken = 0 }

  abbrev spent : Effects
  spent = record { written = written'; output_faults = faults'; image = told'; place_faults = 0; taken = count }

  -- and what stands outside of the place
  abbrev first : ℕ → Effects
  first place_faults = record { written = written; output_faults = faults; image = told; place_faults = place_faults; taken = taken }

  abbrev last : ℕ → Effects
  last place_faults = record { written = written'; output_faults = faults'; image = told'; place_faults = place_faults; taken = taken' }

  plays_there : (before after : ℕ) (text : List ℕ) → Plays readings lines entered spent text → Plays readings lines (first before) (last after) text
  plays_there before after text p = record {
    base = p.base;
    stands = rest_stands told p.base p.stands;
    open_base = p.open_base;
    report = p.report;
    told = p.told;
    counts = p.counts;
    text_is = p.text_is;
    left = p.left;
    cause = halts_taken p.report.replies count taken taken' p.cause over;
  }

  strange_there : (f : FileId) (at before after : ℕ) → Strange f at entered spent → Strange f at (first before) (last after)
  strange_there f at before after s = record {
    nothing = s.nothing;
    breaks = rest_breaks told f at s.breaks;
    image = s.image ∙ rest_twice told;
  }

  starves_there : (before after : ℕ) → Starves entered spent → Starves (first before) (last after)
  starves_there before after s = record { nothing = s.nothing; image = rest_goes_on told told' s.image }

  -- no place failed before the store was left
  unopened_there : (before after : ℕ) → Unopened entered spent → Unopened (first before) (last after)
  unopened_there before after u = record { nothing = u.nothing; cause = cause u.cause; alike = rest_alike told told' u.alike } where
    cause : Rose 0 0 ⊎ Rose 0 count → Rose before after ⊎ Rose taken taken'
    cause (inl none) = absurd (omega (arith, none))
    cause (inr rose) = inr (taken_rose count taken taken' rose over)

  no_unleft : Unleft readings lines entered spent → ⊥
  no_unleft u = omega (arith, u.cause)

  -- the place was left as it should be
  pub left_well : (before after : ℕ) → after ≡ before → (s : Status) → PlaysAt readings lines entered spent s → PlaysAt readings lines (first before) (last after) s
  left_well before after same status.Done h = (h.0, plays_there before after h.0 h.1, h.2, h.3, same)
  left_well before after same status.NoMemory h = starves_there before after h
  left_well before after same status.Usage h = absurd h
  left_well before after same (status.BadScript line) h = absurd h
  left_well before after same status.TooLarge h = absurd h
  left_well before after same status.InputFault h = absurd h
  left_well before after same status.OutputFault h = (h.0, plays_there before after h.0 h.1, h.2, h.3)
  left_well before after same status.StoreFault (inl u) = inl (unopened_there before after u)
  left_well before after same status.StoreFault (inr u) = absurd (no_unleft u)
  left_well before after same (status.NotThisStore f at) h = strange_there f at before after h

  -- the place failed as it was left
  pub left_badly : (before after : ℕ) → Rose before after → (s : Status) → PlaysAt readings lines entered spent s → PlaysAt readings lines (first before) (last after) (left_status s)
  left_badly before after rose status.Done h = inr (record { text = h.0; plays = plays_there before after h.0 h.1; wrote = h.2; output_calm = h.3; cause = rose })
  left_badly before after rose status.NoMemory h = starves_there before after h
  left_badly before after rose status.Usage h = absurd h
  left_badly before after rose (status.BadScript line) h = absurd h
  left_badly before after rose status.TooLarge h = absurd h
  left_badly before after rose status.InputFault h = absurd h
  left_badly before after rose status.OutputFault h = (h.0, plays_there before after h.0 h.1, h.2, h.3)
  left_badly before after rose status.StoreFault (inl u) = inl (unopened_there before after u)
  left_badly before after rose status.StoreFault (inr u) = absurd (no_unleft u)
  left_badly before after rose (status.NotThisStore f at) h = strange_there f at before after h

-- from what the calls of the place say
module _ (lines : List Line) (readings written written' : Option (List ℕ)) (faults faults' : ℕ) (told opened told' left : Option Image) (none count taken taken_then taken' before then after : ℕ) (s : Status) (rest : opened ≡ option_map at_rest told) (new : none ≡ 0) (plays : PlaysAt readings lines (record { written = written; output_faults = faults; image = opened; place_faults = 0; taken = none }) (record { written = written'; output_faults = faults'; image = told'; place_faults = 0; taken = count }) s) (kept : taken_then ≡ taken) (over : raised taken_then count ≤ taken') (entered_well : then ≡ before) (left_is : left ≡ told') where
  at_rest_plays : PlaysAt readings lines (record { written = written; output_faults = faults; image = option_map at_rest told; place_faults = 0; taken = 0 }) (record { written = written'; output_faults = faults'; image = told'; place_faults = 0; taken = count }) s
  at_rest_plays =
      subst (λ n. PlaysAt readings lines (record { written = written; output_faults = faults; image = option_map at_rest told; place_faults = 0; taken = n }) (record { written = written'; output_faults = faults'; image = told'; place_faults = 0; taken = count }) s) new
      (subst (λ (o : Option Image). PlaysAt readings lines (record { written = written; output_faults = faults; image = o; place_faults = 0; taken = none }) (record { written = written'; output_faults = faults'; image = told'; place_faults = 0; taken = count }) s) rest plays)

  is_over : raised taken count ≤ taken'
  is_over = subst (λ n. raised n count ≤ taken') kept over

  abbrev end_of : Option Image → ℕ → Effects
  end_of image place_faults = record { written = written'; output_faults = faults'; image = image; place_faults = place_faults; taken = taken' }

  abbrev begin_of : Effects
  begin_of = record { written = written; output_faults = faults; image = told; place_faults = before; taken = taken }

  pub place_well : after ≡ then → PlaysAt readings lines begin_of (end_of left after) s
  place_well same = subst (λ (o : Option Image). PlaysAt readings lines begin_of (end_of o after) s) (sym left_is) (left_well lines readings written written' faults faults' told told' count taken taken' is_over before after (same ∙ entered_well) s at_rest_plays)

  pub place_badly : (r : Status) → r ≡ left_status s → Rose then after → PlaysAt readings lines begin_of (end_of left after) r
  place_badly r is rose =
      let badly = left_badly lines readings written written' faults faults' told told' count taken taken' is_over before after (subst (λ n. Rose n after) entered_well rose) s at_rest_plays in
      subst (λ (x : Status). PlaysAt readings lines begin_of (end_of left after) x) (sym is) (subst (λ (o : Option Image). PlaysAt readings lines begin_of (end_of o after) (left_status s)) (sym left_is) badly)
