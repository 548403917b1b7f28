-- The numbers of replies: how they follow one another.
use Rattle.std.specs.Prelude.{◌≡◌, ℕ, ◌+◌, ◌≤◌, ◌<◌, max, if◌then◌else◌, ◌==◌, List, [], ◌∷◌, map, filter}
use Rattle.td_model.specs.declared.language.Stmt.{Stmt}
use Rattle.td_model.specs.declared.language.Stmt.TheVariants as stmt
use Rattle.td_model.specs.declared.report.Reply.{Reply}
use Rattle.td_model.specs.declared.report.Reply.TheVariants as reply
use Rattle.td_told.specs.Asked.{Asked}

-- a statement beside its reply
pub record Replied : Type 0 where
  pub asked : Asked
  pub reply : Reply

-- the number of a reply: the version of an entry, that of a halt, the version at which a statement was judged, or none
pub data Number : Type 0 where
  of_entry : ℕ → Number
  of_halt : ℕ → Number
  of_state : ℕ → Number
  unnumbered : Number

-- an answer's number is that of its SELECT; that of a FETCH is its cursor's, and follows no other
abbrev pub answer_number : Stmt → ℕ → Number
answer_number (stmt.Fetch cursor rows) p = unnumbered
answer_number q p = of_state p

abbrev pub number_of : Stmt → Reply → Number
number_of q (reply.Accepted v) = of_entry v
number_of q (reply.AcceptedRows v rows) = of_entry v
number_of q (reply.AcceptedEdge v edge) = of_entry v
number_of q (reply.Answer p names rows) = answer_number q p
number_of q (reply.Opened p) = of_state p
number_of q (reply.Refused p cause) = of_state p
number_of q (reply.StoreFaultHalt v) = of_halt v
number_of q r = unnumbered

abbrev pub number : Replied → Number
number p = number_of p.asked.stmt p.reply

-- the numbers of a session's replies
abbrev pub numbers_of : ℕ → List Replied → List Number
numbers_of session replied = map number (filter (λ (p : Replied). p.asked.session == session) replied)

-- a number isn't below one that was seen, and is greater where it is an entry's or a halt's
abbrev pub Follows : ℕ → Number → Type 0
Follows seen (of_entry v) = seen < v
Follows seen (of_halt v) = seen < v
Follows seen (of_state p) = seen ≤ p
Follows seen unnumbered = Unit {0}

-- a number, or else another
abbrev pub number_or : ℕ → Number → ℕ
number_or seen (of_entry v) = v
number_or seen (of_halt v) = v
number_or seen (of_state p) = p
number_or seen unnumbered = seen

-- the numbers don't fall, and that of an entry or of a halt is greater than those before it
abbrev pub NeverFalling : ℕ → List Number → Type 0
NeverFalling seen [] = Unit {0}
NeverFalling seen (n ∷ ns) = Follows seen n × NeverFalling (number_or seen n) ns

-- The numbers of a phase follow those of all earlier phases: `seen` is the greatest of these, `top` the greatest so
-- far.
abbrev pub PhasesFollow : ℕ → ℕ → ℕ → List Replied → Type 0
PhasesFollow phase seen top [] = Unit {0}
PhasesFollow phase seen top (p ∷ ps) =
    let low = if p.asked.phase == phase then seen else top in
    Follows low (number p) × PhasesFollow p.asked.phase low (max top (number_or top (number p))) ps

-- a number is the front that the replies before it left, and one more where it is an entry's or a halt's
abbrev pub IsFront : ℕ → Number → Type 0
IsFront front (of_entry v) = v ≡ front + 1
IsFront front (of_halt v) = v ≡ front + 1
IsFront front (of_state p) = p ≡ front
IsFront front unnumbered = Unit {0}

-- the front after a number
abbrev pub front_after : ℕ → Number → ℕ
front_after front (of_entry v) = front + 1
front_after front (of_halt v) = front + 1
front_after front (of_state p) = front
front_after front unnumbered = front

abbrev pub AreFronts : ℕ → List Number → Type 0
AreFronts front [] = Unit {0}
AreFronts front (n ∷ ns) = IsFront front n × AreFronts (front_after front n) ns
