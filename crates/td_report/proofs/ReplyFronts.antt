-- Replies in front of a text.
use Rattle.std.proofs.Common.{◌≡◌, ℕ, ◌<◌, ◌^◌, List, [], ◌∷◌, ◌++◌, length, decimal, refl, sym, ap, ap₂}
use Rattle.std.specs.List.{flat_map, AllByRecursion}
use Rattle.std.proofs.lemmas.List.{append_cancel_left}
use lib.Chars.{codes}
use Rattle.td_layer.specs.declared.values.Cell.{Cell}
use Rattle.td_model.specs.declared.report.Cause.{Cause}
use Rattle.td_model.specs.declared.report.Reply.{Reply}
use Rattle.td_model.specs.declared.report.Reply.TheVariants as reply
use Rattle.td_model.specs.Text.{cause_text, names_text, row_line, reply_text, reply_line}
use Rattle.td_model.specs.Printable.{IsPrintableAnswer, IsPrintableCause, IsPrintableReply, IsPrintableLine}
use Rattle.td_report.proofs.Fronts.{EndsAt, is_digit_byte, short, tails, regroup, in_3, in_5, in_6, in_8, distinct, number_front, not_number, one_number, two_numbers}
use Rattle.td_report.proofs.CellFronts.{header_front, rows_front}
use Rattle.td_report.proofs.CauseFronts.{cause_front}

-- `rows` or `edge` and a number, and the end of the line at once
one_or_two : (m n k : ℕ) (u x y : List ℕ) → m < 2 ^ 64 → n < 2 ^ 64 → codes "accepted " ++ ((decimal m ++ 10 ∷ []) ++ x) ≡ codes "accepted " ++ ((((decimal n ++ 32 ∷ u) ++ decimal k) ++ 10 ∷ []) ++ y) → ⊥
one_or_two m n k u x y p q e =
    let f = regroup (in_3 (decimal m) (10 ∷ []) x) (in_5 (decimal n) (32 ∷ u) (decimal k) (10 ∷ []) y) (append_cancel_left (codes "accepted ") _ _ e) in
    let r = number_front m n (10 ∷ x) (32 ∷ (u ++ (decimal k ++ 10 ∷ y))) (short m p) (short n q) refl refl f in
    distinct _ _ r.1 refl

rows_or_edge : (m n k l : ℕ) (x y : List ℕ) → m < 2 ^ 64 → n < 2 ^ 64 → codes "accepted " ++ ((((decimal m ++ codes " rows ") ++ decimal k) ++ 10 ∷ []) ++ x) ≡ codes "accepted " ++ ((((decimal n ++ codes " edge ") ++ decimal l) ++ 10 ∷ []) ++ y) → ⊥
rows_or_edge m n k l x y p q e =
    let f = regroup (in_5 (decimal m) (codes " rows ") (decimal k) (10 ∷ []) x) (in_5 (decimal n) (codes " edge ") (decimal l) (10 ∷ []) y) (append_cancel_left (codes "accepted ") _ _ e) in
    let r = number_front m n (codes " rows " ++ (decimal k ++ 10 ∷ x)) (codes " edge " ++ (decimal l ++ 10 ∷ y)) (short m p) (short n q) refl refl f in
    distinct _ _ r.1 refl

module _ (m n : ℕ) (a b : List (List ℕ)) (r s : List (List Cell)) (x y : List ℕ) (pa : IsPrintableAnswer m a r) (pb : IsPrintableAnswer n b s) where
  answer_is : m ≡ n → a ≡ b → r ≡ s → reply.Answer m a r ≡ reply.Answer n b s
  answer_is f g h = rw (f, g, h) refl

  answer_front : reply_text (reply.Answer m a r) ++ x ≡ reply_text (reply.Answer n b s) ++ y → (reply.Answer m a r ≡ reply.Answer n b s) × (x ≡ y)
  answer_front e =
      let u = flat_map row_line r ++ x in
      let v = flat_map row_line s ++ y in
      let f = regroup (in_8 (decimal m) (codes " rows ") (decimal (length r)) (10 ∷ []) (names_text a) (10 ∷ []) (flat_map row_line r) x) (in_8 (decimal n) (codes " rows ") (decimal (length s)) (10 ∷ []) (names_text b) (10 ∷ []) (flat_map row_line s) y) (append_cancel_left (codes "answer ") _ _ e) in
      let prefix = number_front m n (codes " rows " ++ (decimal (length r) ++ 10 ∷ (names_text a ++ 10 ∷ u))) (codes " rows " ++ (decimal (length s) ++ 10 ∷ (names_text b ++ 10 ∷ v))) (short m pa.prefix) (short n pb.prefix) refl refl f in
      let count = number_front (length r) (length s) (10 ∷ (names_text a ++ 10 ∷ u)) (10 ∷ (names_text b ++ 10 ∷ v)) (short _ pa.few) (short _ pb.few) refl refl (append_cancel_left (codes " rows ") _ _ prefix.1) in
      let header = header_front a b u v pa.header pb.header (tails 10 10 _ _ count.1) in
      let rows = rows_front r s x y count.0 pa.rows pb.rows header.1 in
      (answer_is prefix.0 header.0 rows.0, rows.1)

refused_front : (m n : ℕ) (a b : Cause) (x y : List ℕ) → m < 2 ^ 64 → n < 2 ^ 64 → IsPrintableCause a → IsPrintableCause b → reply_text (reply.Refused m a) ++ x ≡ reply_text (reply.Refused n b) ++ y → (reply.Refused m a ≡ reply.Refused n b) × (x ≡ y)
refused_front m n a b x y p q pa pb e =
    let f = regroup (in_5 (decimal m) (32 ∷ []) (cause_text a) (10 ∷ []) x) (in_5 (decimal n) (32 ∷ []) (cause_text b) (10 ∷ []) y) (append_cancel_left (codes "refused ") _ _ e) in
    let prefix = number_front m n (32 ∷ (cause_text a ++ 10 ∷ x)) (32 ∷ (cause_text b ++ 10 ∷ y)) (short m p) (short n q) refl refl f in
    let g = regroup (sym (in_3 (cause_text a) (10 ∷ []) x)) (sym (in_3 (cause_text b) (10 ∷ []) y)) (tails 32 32 _ _ prefix.1) in
    let cause = cause_front a b x y pa pb g in
    (ap₂ reply.Refused prefix.0 cause.0, cause.1)

reply_front : (a b : Reply) (x y : List ℕ) → IsPrintableReply a → IsPrintableReply b → reply_text a ++ x ≡ reply_text b ++ y → (a ≡ b) × (x ≡ y)
reply_front reply.Closed reply.Closed x y pa pb e = (refl, append_cancel_left (codes "closed\n") x y e)
reply_front reply.Nothing reply.Nothing x y pa pb e = (refl, append_cancel_left (codes "nothing\n") x y e)
reply_front reply.Asked reply.Asked x y pa pb e = (refl, append_cancel_left (codes "asked\n") x y e)
reply_front reply.StoreFault reply.StoreFault x y pa pb e = (refl, append_cancel_left (codes "store fault\n") x y e)
reply_front reply.NoMemory reply.NoMemory x y pa pb e = (refl, append_cancel_left (codes "no memory\n") x y e)
reply_front (reply.Accepted m) (reply.Accepted n) x y pa pb e = let r = one_number (codes "accepted ") m n x y pa pb e in (ap reply.Accepted r.0, r.1)
reply_front (reply.Opened m) (reply.Opened n) x y pa pb e = let r = one_number (codes "opened ") m n x y pa pb e in (ap reply.Opened r.0, r.1)
reply_front (reply.Committed m) (reply.Committed n) x y pa pb e = let r = one_number (codes "committed ") m n x y pa pb e in (ap reply.Committed r.0, r.1)
reply_front (reply.Stopped m) (reply.Stopped n) x y pa pb e = let r = one_number (codes "stopped ") m n x y pa pb e in (ap reply.Stopped r.0, r.1)
reply_front (reply.Merged m) (reply.Merged n) x y pa pb e = let r = one_number (codes "merged ") m n x y pa pb e in (ap reply.Merged r.0, r.1)
reply_front (reply.Swept m) (reply.Swept n) x y pa pb e = let r = one_number (codes "swept ") m n x y pa pb e in (ap reply.Swept r.0, r.1)
reply_front (reply.StoreFaultHalt m) (reply.StoreFaultHalt n) x y pa pb e = let r = one_number (codes "store fault halt ") m n x y pa pb e in (ap reply.StoreFaultHalt r.0, r.1)
reply_front (reply.AcceptedRows m k) (reply.AcceptedRows n l) x y pa pb e = let r = two_numbers (codes "accepted ") (codes "rows ") m n k l x y pa.0 pb.0 pa.1 pb.1 e in (ap₂ reply.AcceptedRows r.0 r.1, r.2)
reply_front (reply.AcceptedEdge m k) (reply.AcceptedEdge n l) x y pa pb e = let r = two_numbers (codes "accepted ") (codes "edge ") m n k l x y pa.0 pb.0 pa.1 pb.1 e in (ap₂ reply.AcceptedEdge r.0 r.1, r.2)
reply_front (reply.Damaged m k) (reply.Damaged n l) x y pa pb e = let r = two_numbers (codes "damaged ") [] m n k l x y pa.0 pb.0 pa.1 pb.1 e in (ap₂ reply.Damaged r.0 r.1, r.2)
reply_front (reply.Answer m a r) (reply.Answer n b s) x y pa pb e = answer_front m n a b r s x y pa pb e
reply_front (reply.Refused m a) (reply.Refused n b) x y pa pb e = refused_front m n a b x y pa.0 pb.0 pa.1 pb.1 e
reply_front (reply.Accepted m) (reply.AcceptedRows n k) x y pa pb e = absurd (one_or_two m n k (codes "rows ") x y pa pb.0 e)
reply_front (reply.Accepted m) (reply.AcceptedEdge n k) x y pa pb e = absurd (one_or_two m n k (codes "edge ") x y pa pb.0 e)
reply_front (reply.AcceptedRows m k) (reply.Accepted n) x y pa pb e = absurd (one_or_two n m k (codes "rows ") y x pb pa.0 (sym e))
reply_front (reply.AcceptedEdge m k) (reply.Accepted n) x y pa pb e = absurd (one_or_two n m k (codes "edge ") y x pb pa.0 (sym e))
reply_front (reply.AcceptedRows m k) (reply.AcceptedEdge n l) x y pa pb e = absurd (rows_or_edge m n k l x y pa.0 pb.0 e)
reply_front (reply.AcceptedEdge m k) (reply.AcceptedRows n l) x y pa pb e = absurd (rows_or_edge n m l k y x pb.0 pa.0 (sym e))
reply_front a b x y pa pb e = absurd (distinct _ _ e refl)

-- ---- lines

line_front : (a b : ℕ × ℕ × Reply) (x y : List ℕ) → IsPrintableLine a → IsPrintableLine b → reply_line a ++ x ≡ reply_line b ++ y → (a ≡ b) × (x ≡ y)
line_front a b x y pa pb e =
    let u = reply_text a.2 ++ x in
    let v = reply_text b.2 ++ y in
    let f = regroup (in_6 (decimal a.0) (46 ∷ []) (decimal a.1) (32 ∷ []) (reply_text a.2) x) (in_6 (decimal b.0) (46 ∷ []) (decimal b.1) (32 ∷ []) (reply_text b.2) y) e in
    let session = number_front a.0 b.0 (46 ∷ (decimal a.1 ++ 32 ∷ u)) (46 ∷ (decimal b.1 ++ 32 ∷ v)) (short a.0 pa.0) (short b.0 pb.0) refl refl f in
    let ordinal = number_front a.1 b.1 (32 ∷ u) (32 ∷ v) (short a.1 pa.1) (short b.1 pb.1) refl refl (tails 46 46 _ _ session.1) in
    let told = reply_front a.2 b.2 x y pa.2 pb.2 (tails 32 32 _ _ ordinal.1) in
    let same : (a.0, a.1, a.2) ≡ (b.0, b.1, b.2) = cc (session.0, ordinal.0, told.0) in
    (same, told.1)

-- no line of a reply begins as what follows the replies
no_line : (r : ℕ × ℕ × Reply) (x z : List ℕ) → IsPrintableLine r → EndsAt is_digit_byte x → x ≡ reply_line r ++ z → ⊥
no_line r [] z p h e = absurd h
no_line r (c ∷ x) z p h e = not_number r.0 c _ x (short r.0 p.0) h (regroup (in_6 (decimal r.0) (46 ∷ []) (decimal r.1) (32 ∷ []) (reply_text r.2) z) refl (sym e))

pub lines_front : (a b : List (ℕ × ℕ × Reply)) (x y : List ℕ) → AllByRecursion IsPrintableLine a → AllByRecursion IsPrintableLine b → EndsAt is_digit_byte x → EndsAt is_digit_byte y → flat_map reply_line a ++ x ≡ flat_map reply_line b ++ y → (a ≡ b) × (x ≡ y)
lines_front [] [] x y pa pb ex ey e = (refl, e)
lines_front [] (s ∷ b) x y pa pb ex ey e = absurd (no_line s x _ pb.0 ex (regroup refl (in_3 (reply_line s) (flat_map reply_line b) y) e))
lines_front (r ∷ a) [] x y pa pb ex ey e = absurd (no_line r y _ pa.0 ey (regroup refl (in_3 (reply_line r) (flat_map reply_line a) x) (sym e)))
lines_front (r ∷ a) (s ∷ b) x y pa pb ex ey e =
    let u = flat_map reply_line a in
    let v = flat_map reply_line b in
    let f = line_front r s (u ++ x) (v ++ y) pa.0 pb.0 (regroup (in_3 (reply_line r) u x) (in_3 (reply_line s) v y) e) in
    let g = lines_front a b x y pa.1 pb.1 ex ey f.1 in
    (ap₂ (λ (h : ℕ × ℕ × Reply) (k : List (ℕ × ℕ × Reply)). h ∷ k) f.0 g.0, g.1)
