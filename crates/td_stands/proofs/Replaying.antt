-- What items make of a state and a memtable, one after another.
use Rattle.std.proofs.Common.{◌≡◌, ℕ, suc, ◌+◌, List, [], ◌∷◌, ◌++◌, length, refl, sym, ap, subst, ◌∙◌, arith}
use Rattle.td_model.specs.declared.history.What.{What}
use Rattle.td_model.specs.declared.history.Verdict.TheVariants.{Accept}
use Rattle.td_model.specs.declared.language.Stmt.{Stmt}
use Rattle.td_model.specs.State.{State, step}
use Rattle.td_model.proofs.Steps.{step_version}
use Rattle.td_parse.specs.Statements.{IsAnswer}
use Rattle.td_parse.proofs.OneAnswer.{one_answer}
use Rattle.td_told.specs.Turn.{entry_at}
use Rattle.td_told.specs.Verdict.{verdict}
use Rattle.td_memtable.specs.Contents.{Contents}
use Rattle.td_wal.specs.declared.item.LogItem.{LogItem}
use Rattle.td_wal.specs.declared.item.LogBody.TheVariants as bodies
use Rattle.td_levels.specs.Taken.{taken}
use Rattle.td_stands.specs.Replay.{IsNext, Replays}
use Rattle.td_stands.specs.Laws.{ReplaysAreOne, ReplaysFollow}

-- ---- the next item

text_is : (a b : List ℕ) → bodies.Text a ≡ bodies.Text b → a ≡ b
text_is a b e = cc

accepted_is : (v w : What) (m n : ℕ) → Accept v m ≡ Accept w n → v ≡ w
accepted_is v w m n e = cc

one_entry : (s : State) (moment : ℕ) (p q : Stmt) (v w : What) (m n : ℕ) → p ≡ q → verdict p s [] moment ≡ Accept v m → verdict q s [] moment ≡ Accept w n → v ≡ w
one_entry s moment p q v w m n same e f = accepted_is v w m n (sym e ∙ ap (λ (x : Stmt). verdict x s [] moment) same ∙ f)

-- an item says one thing in a state
pub one_what : (i : LogItem) (s t u : State) (p : IsNext i s t) (q : IsNext i s u) → p.what ≡ q.what
one_what i s t u p q =
    let texts : p.text ≡ q.text = text_is p.text q.text (sym p.body ∙ q.body) in
    let stmts : p.stmt ≡ q.stmt = one_answer p.text p.stmt q.stmt p.parsed (subst (λ (x : List ℕ). IsAnswer x q.stmt) (sym texts) q.parsed) in
    one_entry s i.moment p.stmt q.stmt p.what q.what p.rows q.rows stmts p.accepted q.accepted

-- and makes one state of it
pub one_next : (i : LogItem) (s t u : State) → IsNext i s t → IsNext i s u → t ≡ u
one_next i s t u p q = p.state ∙ ap (λ (w : What). step (s ∷ []) (entry_at i.session i.ordinal i.moment w)) (one_what i s t u p q) ∙ sym q.state

pub next_version : (i : LogItem) (s t : State) → IsNext i s t → t.version ≡ s.version + 1
next_version i s t n = ap (λ (x : State). x.version) n.state ∙ step_version (s ∷ []) (entry_at i.session i.ordinal i.moment n.what)

-- ---- items, one after another

-- what comes behind an item in one replay comes behind it in another
pub behind_one : (i : LogItem) (is : List LogItem) (s t u v : State) (l n : Contents) (p : IsNext i s t) (q : IsNext i s u) → Replays u (taken q.what i.moment l) is v n → Replays t (taken p.what i.moment l) is v n
behind_one i is s t u v l n p q rest =
    let taken_there : Contents → Type 0 = λ m. Replays t m is v n in
    let here = subst (λ (x : State). Replays x (taken q.what i.moment l) is v n) (sym (one_next i s t u p q)) rest in
    subst taken_there (ap (λ (w : What). taken w i.moment l) (sym (one_what i s t u p q))) here

pub one_replay : ReplaysAreOne
one_replay s t u l m n [] p q = (p.0 ∙ sym q.0, p.1 ∙ sym q.1)
one_replay s t u l m n (i ∷ is) p q =
    one_replay p.0 t u (taken p.1.what i.moment l) m n is p.3 (behind_one i is s p.0 q.0 u l n p.1 q.1 q.3)

pub replays_then : ReplaysFollow
replays_then s t u l m n [] after p q = subst (λ (x : Contents). Replays s x after u n) p.1 (subst (λ (x : State). Replays x m after u n) p.0 q)
replays_then s t u l m n (i ∷ is) after p q = (p.0, p.1, p.2, replays_then p.0 t u (taken p.1.what i.moment l) m n is after p.3 q)

pub replays_split : (a b : List LogItem) (s u : State) (l n : Contents) → Replays s l (a ++ b) u n → (t : State) × (m : Contents) × Replays s l a t m × Replays t m b u n
replays_split [] b s u l n p = (s, l, (refl, refl), p)
replays_split (i ∷ is) b s u l n p =
    let r = replays_split is b p.0 u (taken p.1.what i.moment l) n p.3 in
    (r.0, r.1, (p.0, p.1, p.2, r.2), r.3)

no_more : (a b : ℕ) → a ≡ b → a ≡ b + 0
no_more a b e = omega arith

one_more : (a b c n : ℕ) → a ≡ b + n → b ≡ c + 1 → a ≡ c + suc n
one_more a b c n e f = omega arith

-- each item makes one version
pub replays_version : (items : List LogItem) (s t : State) (l m : Contents) → Replays s l items t m → t.version ≡ s.version + length items
replays_version [] s t l m p = no_more t.version s.version (ap (λ (x : State). x.version) p.0)
replays_version (i ∷ is) s t l m p =
    one_more t.version p.0.version s.version (length is) (replays_version is p.0 t (taken p.1.what i.moment l) m p.3) (next_version i s p.0 p.1)
