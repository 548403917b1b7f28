-- Lines of streams and of the journal, and the whole text.
use Rattle.std.proofs.Common.{◌≡◌, ℕ, ◌<◌, ◌^◌, ◌==◌, ◌&&◌, if◌then◌else◌, Bool, true, false, ◌⊎◌, inl, inr, List, [], ◌∷◌, ◌++◌, length, decimal, refl, sym, ap, ap₂, ◌∙◌, arith}
use Rattle.std.specs.List.{flat_map, AllByRecursion}
use Rattle.std.proofs.lemmas.List.{append_cancel_left}
use Rattle.std.proofs.lemmas.Fmt.{decimal_digit}
use Rattle.std.proofs.lemmas.Bool.Decides.{nat_tests}
use lib.Chars.{codes}
use Rattle.td_model.specs.declared.report.Mark.{Mark}
use Rattle.td_model.specs.declared.report.Mark.TheVariants as mark
use Rattle.td_model.specs.declared.report.JournalLine.{JournalLine}
use Rattle.td_model.specs.declared.report.Report.{Report}
use Rattle.td_model.specs.declared.report.Reply.{Reply}
use Rattle.td_model.specs.Text.{who_text, mark_text, journal_line, stream_line, reply_line, report_text}
use Rattle.td_model.specs.Printable.{IsPrintableMark, IsPrintableEntry, IsPrintableStream, IsPrintable}
use Rattle.td_report.proofs.Fronts.{EndsAt, is_digit_byte, short, heads, tails, regroup, in_3, in_4, in_5, in_6, in_8, distinct, number_front, word_front}
use Rattle.td_report.proofs.ReplyFronts.{lines_front}

-- ---- streams

stream_front : (a b : List ℕ × ℕ) (x y : List ℕ) → IsPrintableStream a → IsPrintableStream b → stream_line a ++ x ≡ stream_line b ++ y → (a ≡ b) × (x ≡ y)
stream_front a b x y pa pb e =
    let f = regroup (in_5 a.0 (codes " upto ") (decimal a.1) (10 ∷ []) x) (in_5 b.0 (codes " upto ") (decimal b.1) (10 ∷ []) y) (append_cancel_left (codes "stream ") _ _ e) in
    let name = word_front a.0 b.0 (codes " upto " ++ (decimal a.1 ++ 10 ∷ x)) (codes " upto " ++ (decimal b.1 ++ 10 ∷ y)) pa.0 pb.0 refl refl f in
    let upto = number_front a.1 b.1 (10 ∷ x) (10 ∷ y) (short a.1 pa.1) (short b.1 pb.1) refl refl (append_cancel_left (codes " upto ") _ _ name.1) in
    let same : (a.0, a.1) ≡ (b.0, b.1) = cc (name.0, upto.0) in
    (same, tails 10 10 x y upto.1)

-- before a line that begins with `j`
streams_front : (a b : List (List ℕ × ℕ)) (x y : List ℕ) → AllByRecursion IsPrintableStream a → AllByRecursion IsPrintableStream b → flat_map stream_line a ++ 106 ∷ x ≡ flat_map stream_line b ++ 106 ∷ y → (a ≡ b) × (x ≡ y)
streams_front [] [] x y pa pb e = (refl, tails 106 106 x y e)
streams_front [] (s ∷ b) x y pa pb e = let h = heads 106 115 _ _ e in absurd (omega (arith, h))
streams_front (r ∷ a) [] x y pa pb e = let h = heads 115 106 _ _ e in absurd (omega (arith, h))
streams_front (r ∷ a) (s ∷ b) x y pa pb e =
    let u = flat_map stream_line a in
    let v = flat_map stream_line b in
    let f = stream_front r s (u ++ 106 ∷ x) (v ++ 106 ∷ y) pa.0 pb.0 (regroup (in_3 (stream_line r) u (106 ∷ x)) (in_3 (stream_line s) v (106 ∷ y)) e) in
    let g = streams_front a b x y pa.1 pb.1 f.1 in
    (ap₂ (λ (h : List ℕ × ℕ) (k : List (List ℕ × ℕ)). h ∷ k) f.0 g.0, g.1)

-- ---- whose entry it is

abbrev is_no_one : ℕ → ℕ → Bool
is_no_one s o = s == 0 && o == 0

no_one : (s o : ℕ) → is_no_one s o ≡ true → (s ≡ 0) × (o ≡ 0)
no_one s o e = (grind (arith, nat_tests), grind (arith, nat_tests))

who_by : (s o : ℕ) (t : Bool) → is_no_one s o ≡ t → ((s ≡ 0) × (o ≡ 0) × (who_text s o ≡ decimal 0)) ⊎ (who_text s o ≡ (decimal s ++ 46 ∷ []) ++ decimal o)
who_by s o true e = let z = no_one s o e in inl (z.0, z.1, ap (λ (t : Bool). if t then codes "0" else decimal s ++ codes "." ++ decimal o) e ∙ sym (decimal_digit 0 (omega arith)))
who_by s o false e = inr (ap (λ (t : Bool). if t then codes "0" else decimal s ++ codes "." ++ decimal o) e)

who_is : (s o : ℕ) → ((s ≡ 0) × (o ≡ 0) × (who_text s o ≡ decimal 0)) ⊎ (who_text s o ≡ (decimal s ++ 46 ∷ []) ++ decimal o)
who_is s o = who_by s o (is_no_one s o) refl

replaced : (u v x : List ℕ) → u ≡ v → u ++ 32 ∷ x ≡ v ++ 32 ∷ x
replaced u v x e = ap (λ (k : List ℕ). k ++ 32 ∷ x) e

-- `0` isn't the front of `S.O`
not_zero : (w : List ℕ) (t p : ℕ) (v x y : List ℕ) → t < 2 ^ 64 → w ≡ decimal 0 → v ≡ (decimal t ++ 46 ∷ []) ++ decimal p → w ++ 32 ∷ x ≡ v ++ 32 ∷ y → ⊥
not_zero w t p v x y h ew ev e =
    let f = regroup (replaced w (decimal 0) x ew) (replaced v _ y ev ∙ in_4 (decimal t) (46 ∷ []) (decimal p) (32 ∷ y)) e in
    let r = number_front 0 t (32 ∷ x) (46 ∷ (decimal p ++ 32 ∷ y)) (short 0 (omega arith)) (short t h) refl refl f in
    distinct _ _ r.1 refl

who_front : (s o t p : ℕ) (x y : List ℕ) → s < 2 ^ 64 → o < 2 ^ 64 → t < 2 ^ 64 → p < 2 ^ 64 → who_text s o ++ 32 ∷ x ≡ who_text t p ++ 32 ∷ y → (s ≡ t) × (o ≡ p) × (x ≡ y)
who_front s o t p x y hs ho ht hp e = elim (who_is s o) [
  | inl f ↦ elim (who_is t p) [
    | inl g ↦ (f.0 ∙ sym g.0, f.1 ∙ sym g.1, tails 32 32 x y (append_cancel_left (decimal 0) _ _ (regroup (replaced (who_text s o) (decimal 0) x f.2) (replaced (who_text t p) (decimal 0) y g.2) e)))
    | inr g ↦ absurd (not_zero (who_text s o) t p (who_text t p) x y ht f.2 g e)
  ]
  | inr f ↦ elim (who_is t p) [
    | inl g ↦ absurd (not_zero (who_text t p) s o (who_text s o) y x hs g.2 f (sym e))
    | inr g ↦
        let c = regroup (replaced (who_text s o) _ x f ∙ in_4 (decimal s) (46 ∷ []) (decimal o) (32 ∷ x)) (replaced (who_text t p) _ y g ∙ in_4 (decimal t) (46 ∷ []) (decimal p) (32 ∷ y)) e in
        let a = number_front s t (46 ∷ (decimal o ++ 32 ∷ x)) (46 ∷ (decimal p ++ 32 ∷ y)) (short s hs) (short t ht) refl refl c in
        let b = number_front o p (32 ∷ x) (32 ∷ y) (short o ho) (short p hp) refl refl (tails 46 46 _ _ a.1) in
        (a.0, b.0, tails 32 32 x y b.1)
  ]
]

-- ---- marks

after_moment : (m : Mark) (x : List ℕ) → EndsAt is_digit_byte (mark_text m ++ 10 ∷ x)
after_moment mark.Plain x = refl
after_moment (mark.Step stream upto moment) x = refl
after_moment mark.Halt x = refl

step_is : (a b : List ℕ) (k l m n : ℕ) → a ≡ b → k ≡ l → m ≡ n → mark.Step a k m ≡ mark.Step b l n
step_is a b k l m n f g h = rw (f, g, h) refl

step_front : (a b : List ℕ) (k l m n : ℕ) (x y : List ℕ) → IsPrintableMark (mark.Step a k m) → IsPrintableMark (mark.Step b l n) → mark_text (mark.Step a k m) ++ 10 ∷ x ≡ mark_text (mark.Step b l n) ++ 10 ∷ y → (mark.Step a k m ≡ mark.Step b l n) × (x ≡ y)
step_front a b k l m n x y pa pb e =
    let f = regroup (in_6 a (32 ∷ []) (decimal k) (32 ∷ []) (decimal m) (10 ∷ x)) (in_6 b (32 ∷ []) (decimal l) (32 ∷ []) (decimal n) (10 ∷ y)) (append_cancel_left (codes " step ") _ _ e) in
    let name = word_front a b (32 ∷ (decimal k ++ 32 ∷ (decimal m ++ 10 ∷ x))) (32 ∷ (decimal l ++ 32 ∷ (decimal n ++ 10 ∷ y))) pa.0 pb.0 refl refl f in
    let upto = number_front k l (32 ∷ (decimal m ++ 10 ∷ x)) (32 ∷ (decimal n ++ 10 ∷ y)) (short k pa.1) (short l pb.1) refl refl (tails 32 32 _ _ name.1) in
    let moment = number_front m n (10 ∷ x) (10 ∷ y) (short m pa.2) (short n pb.2) refl refl (tails 32 32 _ _ upto.1) in
    (step_is a b k l m n name.0 upto.0 moment.0, tails 10 10 x y moment.1)

mark_front : (a b : Mark) (x y : List ℕ) → IsPrintableMark a → IsPrintableMark b → mark_text a ++ 10 ∷ x ≡ mark_text b ++ 10 ∷ y → (a ≡ b) × (x ≡ y)
mark_front mark.Plain mark.Plain x y pa pb e = (refl, tails 10 10 x y e)
mark_front mark.Halt mark.Halt x y pa pb e = (refl, append_cancel_left (codes " halt\n") x y e)
mark_front (mark.Step a k m) (mark.Step b l n) x y pa pb e = step_front a b k l m n x y pa pb e
mark_front a b x y pa pb e = absurd (distinct _ _ e refl)

-- ---- the journal

abbrev entry : ℕ → ℕ → ℕ → ℕ → Mark → JournalLine
entry version session ordinal moment mark = record { version = version; session = session; ordinal = ordinal; moment = moment; mark = mark }

entry_is : (i j : JournalLine) → i.version ≡ j.version → i.session ≡ j.session → i.ordinal ≡ j.ordinal → i.moment ≡ j.moment → i.mark ≡ j.mark → i ≡ j
entry_is i j a b c d f = let same : entry i.version i.session i.ordinal i.moment i.mark ≡ entry j.version j.session j.ordinal j.moment j.mark = rw (a, b, c, d, f) refl in same

entry_front : (i j : JournalLine) (x y : List ℕ) → IsPrintableEntry i → IsPrintableEntry j → journal_line i ++ x ≡ journal_line j ++ y → (i ≡ j) × (x ≡ y)
entry_front i j x y pi pj e =
    let who = who_text i.session i.ordinal in
    let who' = who_text j.session j.ordinal in
    let end = mark_text i.mark ++ 10 ∷ x in
    let end' = mark_text j.mark ++ 10 ∷ y in
    let f = regroup (in_8 (decimal i.version) (32 ∷ []) who (32 ∷ []) (decimal i.moment) (mark_text i.mark) (10 ∷ []) x) (in_8 (decimal j.version) (32 ∷ []) who' (32 ∷ []) (decimal j.moment) (mark_text j.mark) (10 ∷ []) y) e in
    let version = number_front i.version j.version (32 ∷ (who ++ 32 ∷ (decimal i.moment ++ end))) (32 ∷ (who' ++ 32 ∷ (decimal j.moment ++ end'))) (short _ pi.version) (short _ pj.version) refl refl f in
    let by = who_front i.session i.ordinal j.session j.ordinal (decimal i.moment ++ end) (decimal j.moment ++ end') pi.session pi.ordinal pj.session pj.ordinal (tails 32 32 _ _ version.1) in
    let moment = number_front i.moment j.moment end end' (short _ pi.moment) (short _ pj.moment) (after_moment i.mark x) (after_moment j.mark y) by.2 in
    let told = mark_front i.mark j.mark x y pi.mark pj.mark moment.1 in
    (entry_is i j version.0 by.0 by.1 moment.0 told.0, told.1)

journal_front : (a b : List JournalLine) → length a ≡ length b → AllByRecursion IsPrintableEntry a → AllByRecursion IsPrintableEntry b → flat_map journal_line a ≡ flat_map journal_line b → a ≡ b
journal_front [] [] l pa pb e = refl
journal_front [] (j ∷ b) l pa pb e = absurd (omega (arith, l))
journal_front (i ∷ a) [] l pa pb e = absurd (omega (arith, l))
journal_front (i ∷ a) (j ∷ b) l pa pb e =
    let f = entry_front i j (flat_map journal_line a) (flat_map journal_line b) pa.0 pb.0 e in
    let g = journal_front a b (omega (arith, l)) pa.1 pb.1 f.1 in
    ap₂ (λ (h : JournalLine) (k : List JournalLine). h ∷ k) f.0 g

-- ---- the report

-- a line of a stream or of the journal follows the replies
after_replies : (s : List (List ℕ × ℕ)) (x : List ℕ) → EndsAt is_digit_byte (flat_map stream_line s ++ 106 ∷ x)
after_replies [] x = refl
after_replies (r ∷ s) x = refl

abbrev parts : ℕ → List (ℕ × ℕ × Reply) → List (List ℕ × ℕ) → List JournalLine → Report
parts base replies streams journal = record { base = base; replies = replies; streams = streams; journal = journal }

report_is : (a b : Report) → a.base ≡ b.base → a.replies ≡ b.replies → a.streams ≡ b.streams → a.journal ≡ b.journal → a ≡ b
report_is a b p q r s = let same : parts a.base a.replies a.streams a.journal ≡ parts b.base b.replies b.streams b.journal = rw (p, q, r, s) refl in same

-- what follows the streams, but for its first byte
abbrev ending : List JournalLine → List ℕ
ending j = codes "ournal " ++ (decimal (length j) ++ 10 ∷ flat_map journal_line j)

abbrev after_base : Report → List ℕ
after_base r = flat_map reply_line r.replies ++ (flat_map stream_line r.streams ++ 106 ∷ ending r.journal)

text_is : (r : Report) → report_text r ≡ codes "base " ++ (decimal r.base ++ 10 ∷ after_base r)
text_is r = ap (λ (t : List ℕ). codes "base " ++ t) (in_8 (decimal r.base) (10 ∷ []) (flat_map reply_line r.replies) (flat_map stream_line r.streams) (codes "journal ") (decimal (length r.journal)) (10 ∷ []) (flat_map journal_line r.journal))

pub tells : (a b : Report) → IsPrintable a → IsPrintable b → report_text a ≡ report_text b → a ≡ b
tells a b pa pb e =
    let f = append_cancel_left (codes "base ") _ _ (regroup (text_is a) (text_is b) e) in
    let base = number_front a.base b.base (10 ∷ after_base a) (10 ∷ after_base b) (short _ pa.base) (short _ pb.base) refl refl f in
    let replies = lines_front a.replies b.replies (flat_map stream_line a.streams ++ 106 ∷ ending a.journal) (flat_map stream_line b.streams ++ 106 ∷ ending b.journal) pa.replies pb.replies (after_replies a.streams _) (after_replies b.streams _) (tails 10 10 _ _ base.1) in
    let streams = streams_front a.streams b.streams (ending a.journal) (ending b.journal) pa.streams pb.streams replies.1 in
    let count = number_front (length a.journal) (length b.journal) (10 ∷ flat_map journal_line a.journal) (10 ∷ flat_map journal_line b.journal) (short _ pa.few) (short _ pb.few) refl refl (append_cancel_left (codes "ournal ") _ _ streams.1) in
    let journal = journal_front a.journal b.journal count.0 pa.journal pb.journal (tails 10 10 _ _ count.1) in
    report_is a b base.0 replies.0 streams.0 journal
