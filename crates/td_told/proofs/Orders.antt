-- Replies that have the fronts of their lines for numbers: their numbers don't fall, along a session and between phases.
use Rattle.std.proofs.Common.{ℕ, ◌≤◌, ◌==◌, max, Bool, true, false, cond, List, [], ◌∷◌, map, filter, arith}
use Rattle.td_told.specs.Numbers.{Replied, Number, of_entry, of_halt, of_state, unnumbered, number, numbers_of, Follows, number_or, NeverFalling, PhasesFollow, IsFront, front_after, AreFronts}

-- a number that is the front, beside a number that isn't above the front
record Keeps (front seen : ℕ) (n : Number) : Type 0 where
  follows : Follows seen n
  most : number_or seen n ≤ front_after front n
  rises : front ≤ front_after front n

keeps : (front seen : ℕ) (n : Number) → seen ≤ front → IsFront front n → Keeps front seen n
keeps front seen (of_entry v) l is = record { follows = omega arith; most = omega arith; rises = omega arith }
keeps front seen (of_halt v) l is = record { follows = omega arith; most = omega arith; rises = omega arith }
keeps front seen (of_state p) l is = record { follows = omega arith; most = omega arith; rises = omega arith }
keeps front seen unnumbered l is = record { follows = tt; most = l; rises = omega arith }

pub session_numbers : (session front seen : ℕ) (ps : List Replied) → seen ≤ front → AreFronts front (map number ps) → NeverFalling seen (numbers_of session ps)
session_numbers session front seen [] l is = tt
session_numbers session front seen (p ∷ ps) l is =
    let n = number p in
    let k = keeps front seen n l is.0 in
    elim (p.asked.session == session) as (λ b. NeverFalling seen (map number (cond b (p ∷ filter (λ (x : Replied). x.asked.session == session) ps) (filter (λ (x : Replied). x.asked.session == session) ps)))) [
      | true ↦ (k.follows, session_numbers session (front_after front n) (number_or seen n) ps k.most is.1)
      | false ↦ session_numbers session (front_after front n) seen ps (omega (arith, k.rises)) is.1
    ]

pub either_least : (b : Bool) (seen top front : ℕ) → seen ≤ front → top ≤ front → cond b seen top ≤ front
either_least true seen top front l k = l
either_least false seen top front l k = k

pub phase_numbers : (phase front seen top : ℕ) (ps : List Replied) → seen ≤ front → top ≤ front → AreFronts front (map number ps) → PhasesFollow phase seen top ps
phase_numbers phase front seen top [] l k is = tt
phase_numbers phase front seen top (p ∷ ps) l k is =
    let n = number p in
    let low : cond (p.asked.phase == phase) seen top ≤ front = either_least (p.asked.phase == phase) seen top front l k in
    let here = keeps front (cond (p.asked.phase == phase) seen top) n low is.0 in
    let high = keeps front top n k is.0 in
    (here.follows, phase_numbers p.asked.phase (front_after front n) (cond (p.asked.phase == phase) seen top) (max top (number_or top n)) ps (omega (arith, low, here.rises)) (omega (arith, k, high.most, high.rises)) is.1)
