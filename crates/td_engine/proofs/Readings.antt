-- The readings that were taken, and the floor.
use Rattle.std.proofs.Common.{◌≡◌, inl, inr, ℕ, zero, suc, ◌<◌, ◌≤◌, max, Bool, true, false, List, [], ◌∷◌, ◌++◌, length, Option, Some, None, slice_get, refl, sym, ap, subst, ◌∙◌, arith}
use Rattle.std.specs.Prelude.{IfSome}
use Rattle.std.proofs.lemmas.Bool.{cases_lt}
use Rattle.std.proofs.lemmas.List.{append-nil, length_push}
use Rattle.td_model.specs.declared.history.Entry.{Entry}
use Rattle.td_model.specs.State.{State}
use Rattle.td_outside.specs.Causes.{Reads}
use Rattle.td_told.specs.Times.{reading, left_after, WereTaken, is_halt, without_halts, IsGiven, AreTimed, Timed}
use Rattle.td_engine.specs.CoreState.{CoreState}
use Rattle.td_engine.specs.Covers.{greatest, ClockIs}
use Rattle.td_engine.proofs.Histories.{halt_kept, entry_kept, get_pushed}

-- ---- one reading more

next_reading : (rs : List ℕ) (n : ℕ) (now : Option (List ℕ)) (x : ℕ) → Reads (Some (left_after rs n)) now x → (x ≡ reading rs n) × (now ≡ Some (left_after rs (suc n)))
next_reading [] n now x h = absurd h
next_reading (t ∷ []) zero now x h = h
next_reading (t ∷ []) (suc n) now x h = h
next_reading (t ∷ u ∷ ts) zero now x h = h
next_reading (t ∷ u ∷ ts) (suc n) now x h = next_reading (u ∷ ts) n now x h

next_taken : (rs : List ℕ) (n : ℕ) (before now : Option (List ℕ)) (x : ℕ) → before ≡ Some (left_after rs n) → Reads before now x → (x ≡ reading rs n) × (now ≡ Some (left_after rs (suc n)))
next_taken rs n before now x taken reads = next_reading rs n now x (subst (λ (o : Option (List ℕ)). Reads o now x) taken reads)

taken_more : (opened : Option (List ℕ)) (n : ℕ) (before now : Option (List ℕ)) (x : ℕ) → WereTaken opened n before → Reads before now x → WereTaken opened (suc n) now
taken_more None n before now x taken reads = tt
taken_more (Some rs) n before now x taken reads = (next_taken rs n before now x taken reads).1

floor_more : (opened : Option (List ℕ)) (least n : ℕ) (before now : Option (List ℕ)) (x floor new : ℕ) → WereTaken opened n before → Reads before now x → IfSome opened (λ rs. floor ≡ greatest least rs n) → new ≡ max x floor
    → IfSome opened (λ rs. new ≡ greatest least rs (suc n))
floor_more None least n before now x floor new taken reads was is = tt
floor_more (Some rs) least n before now x floor new taken reads was is = omega (arith, (next_taken rs n before now x taken reads).0, was, is)

-- ---- what the greatest is

-- each reading that was taken is at most the greatest
greatest_most : (least : ℕ) (rs : List ℕ) (n i : ℕ) → i < n → reading rs i ≤ greatest least rs n
greatest_most least rs zero i lt = absurd (omega arith)
greatest_most least rs (suc n) i lt = elim (cases_lt i n) [
  | inl earlier ↦ omega (arith, greatest_most least rs n i earlier)
  | inr late ↦ let same : i ≡ n = omega arith in omega (arith, ap (reading rs) same)
]

-- the greatest is the least, or a reading
greatest_given : (least : ℕ) (rs : List ℕ) (n : ℕ) → IsGiven rs least (greatest least rs n)
greatest_given least rs zero = inl refl
greatest_given least rs (suc n) = elim (cases_lt (greatest least rs n) (reading rs n)) [
  | inl less ↦ inr (n, omega (arith, less))
  | inr most ↦
      let same : greatest least rs n ≡ max (greatest least rs n) (reading rs n) = omega (arith, most) in
      subst (IsGiven rs least) same (greatest_given least rs n)
]

-- ---- the moments of a history

given_more : (rs : List ℕ) (least : ℕ) (h : List Entry) (e : Entry) → ((k : ℕ) (x : Entry) → slice_get h k ≡ Some x → IsGiven rs least x.moment) → IsGiven rs least e.moment
    → (k : ℕ) (x : Entry) → slice_get (h ++ e ∷ []) k ≡ Some x → IsGiven rs least x.moment
given_more rs least h e before here k x is = elim (get_pushed h e x k is) [
  | inl earlier ↦ before k x earlier
  | inr last ↦ subst (λ (y : Entry). IsGiven rs least y.moment) last.1 here
]

late_more : (rs : List ℕ) (h : List Entry) (e : Entry) → ((k : ℕ) (x : Entry) → slice_get h k ≡ Some x → (i : ℕ) → i ≤ k → reading rs i ≤ x.moment) → ((i : ℕ) → i ≤ length h → reading rs i ≤ e.moment)
    → (k : ℕ) (x : Entry) → slice_get (h ++ e ∷ []) k ≡ Some x → (i : ℕ) → i ≤ k → reading rs i ≤ x.moment
late_more rs h e before here k x is i le = elim (get_pushed h e x k is) [
  | inl earlier ↦ before k x earlier i le
  | inr last ↦ subst (λ (y : Entry). reading rs i ≤ y.moment) last.1 (here i (omega (arith, last.0)))
]

timed_more : (rs : List ℕ) (least n : ℕ) (h : List Entry) (e : Entry) (halts : Bool) → is_halt e.what ≡ halts → length (without_halts h) ≤ n → e.moment ≡ greatest least rs (suc n) → AreTimed rs least h → AreTimed rs least (h ++ e ∷ [])
timed_more rs least n h e true is few moment timed = record {
  late = λ k x found. timed.late k x (ap (λ (l : List Entry). slice_get l k) (sym (halt_kept h e is)) ∙ found);
  among = given_more rs least h e timed.among (subst (IsGiven rs least) (sym moment) (greatest_given least rs (suc n)));
}
timed_more rs least n h e false is few moment timed = record {
  late = λ k x found. late_more rs (without_halts h) e timed.late (λ i le. omega (arith, moment, greatest_most least rs (suc n) i (omega (arith, le, few)))) k x (ap (λ (l : List Entry). slice_get l k) (sym (entry_kept h e is)) ∙ found);
  among = given_more rs least h e timed.among (subst (IsGiven rs least) (sym moment) (greatest_given least rs (suc n)));
}

all_timed : (opened : Option (List ℕ)) (least n floor : ℕ) (h : List Entry) (e : Entry) → length (without_halts h) ≤ n → e.moment ≡ floor → IfSome opened (λ rs. floor ≡ greatest least rs (suc n)) → Timed opened least h → Timed opened least (h ++ e ∷ [])
all_timed None least n floor h e few moment is timed = tt
all_timed (Some rs) least n floor h e few moment is timed = timed_more rs least n h e (is_halt e.what) refl few (moment ∙ is) timed

enough_more : (h : List Entry) (e : Entry) (n : ℕ) (halts : Bool) → is_halt e.what ≡ halts → length (without_halts h) ≤ n → length (without_halts (h ++ e ∷ [])) ≤ suc n
enough_more h e n true is few = omega (arith, ap length (halt_kept h e is))
enough_more h e n false is few = omega (arith, ap length (entry_kept h e is), length_push (without_halts h) e)

-- ---- the point of the clock

-- a reading was taken, and no entry was added
pub clock_stays : (opened : Option (List ℕ)) (old new : CoreState) (now : ℕ) (b : State) (h : List Entry) → Reads old.readings new.readings now → new.floor ≡ max now old.floor → ClockIs opened old b h → ClockIs opened new b (h ++ [])
clock_stays opened old new now b h reads floor c =
    let all : h ≡ h ++ [] = sym (append-nil h) in
    record {
      taken = suc c.taken;
      were_taken = taken_more opened c.taken old.readings new.readings now c.were_taken reads;
      enough = subst (λ (l : List Entry). length (without_halts l) ≤ suc c.taken) all (omega (arith, c.enough));
      floor = floor_more opened b.moment c.taken old.readings new.readings now old.floor new.floor c.were_taken reads c.floor floor;
      timed = subst (Timed opened b.moment) all c.timed;
    }

-- a reading was taken, and an entry was added whose moment is the floor
pub clock_more : (opened : Option (List ℕ)) (old new : CoreState) (now : ℕ) (b : State) (h : List Entry) (e : Entry) → Reads old.readings new.readings now → new.floor ≡ max now old.floor → e.moment ≡ new.floor → ClockIs opened old b h → ClockIs opened new b (h ++ e ∷ [])
clock_more opened old new now b h e reads floor moment c =
    let up = floor_more opened b.moment c.taken old.readings new.readings now old.floor new.floor c.were_taken reads c.floor floor in
    record {
      taken = suc c.taken;
      were_taken = taken_more opened c.taken old.readings new.readings now c.were_taken reads;
      enough = enough_more h e c.taken (is_halt e.what) refl c.enough;
      floor = up;
      timed = all_timed opened b.moment c.taken new.floor h e c.enough moment up c.timed;
    }
