-- Causes of refusal in front of a text.
use Rattle.std.proofs.Common.{◌≡◌, ℕ, ◌<◌, ◌^◌, List, [], ◌∷◌, ◌++◌, decimal, refl, sym, ap, ap₂}
use Rattle.std.proofs.lemmas.List.{append_cancel_left}
use lib.Chars.{codes}
use Rattle.td_model.specs.declared.report.Cause.{Cause}
use Rattle.td_model.specs.declared.report.Cause.TheVariants as cause
use Rattle.td_model.specs.declared.report.Many.{Many}
use Rattle.td_model.specs.declared.report.Many.TheVariants as many
use Rattle.td_model.specs.Text.{many_text, cause_text}
use Rattle.td_model.specs.Printable.{IsWord, IsPrintableCause}
use Rattle.td_report.proofs.Fronts.{tails, regroup, in_3, in_5, distinct, short, number_front, one_number, word_front}

-- ---- what there are too many of

many_front : (a b : Many) (x y : List ℕ) → many_text a ++ 32 ∷ x ≡ many_text b ++ 32 ∷ y → (a ≡ b) × (x ≡ y)
many_front many.Columns many.Columns x y e = (refl, append_cancel_left (codes "columns ") x y e)
many_front many.Tags many.Tags x y e = (refl, append_cancel_left (codes "tags ") x y e)
many_front many.Rows many.Rows x y e = (refl, append_cancel_left (codes "rows ") x y e)
many_front many.Tables many.Tables x y e = (refl, append_cancel_left (codes "tables ") x y e)
many_front many.Streams many.Streams x y e = (refl, append_cancel_left (codes "streams ") x y e)
many_front many.Numbers many.Numbers x y e = (refl, append_cancel_left (codes "numbers ") x y e)
many_front many.Cursors many.Cursors x y e = (refl, append_cancel_left (codes "cursors ") x y e)
many_front a b x y e = absurd (distinct _ _ e refl)

-- none of them begins as `versions` does
not_versions : (a : Many) (x y : List ℕ) → many_text a ++ x ≡ 118 ∷ y → ⊥
not_versions many.Columns x y e = distinct _ _ e refl
not_versions many.Tags x y e = distinct _ _ e refl
not_versions many.Rows x y e = distinct _ _ e refl
not_versions many.Tables x y e = distinct _ _ e refl
not_versions many.Streams x y e = distinct _ _ e refl
not_versions many.Numbers x y e = distinct _ _ e refl
not_versions many.Cursors x y e = distinct _ _ e refl

-- ---- causes with fields

one_word : (w a b x y : List ℕ) → IsWord a → IsWord b → w ++ ((a ++ 10 ∷ []) ++ x) ≡ w ++ ((b ++ 10 ∷ []) ++ y) → (a ≡ b) × (x ≡ y)
one_word w a b x y p q e =
    let r = word_front a b (10 ∷ x) (10 ∷ y) p q refl refl (regroup (in_3 a (10 ∷ []) x) (in_3 b (10 ∷ []) y) (append_cancel_left w _ _ e)) in
    (r.0, tails 10 10 x y r.1)

too_many : (a b : Many) (m n : ℕ) (x y : List ℕ) → m < 2 ^ 64 → n < 2 ^ 64 → (((many_text a ++ 32 ∷ []) ++ decimal m) ++ 10 ∷ []) ++ x ≡ (((many_text b ++ 32 ∷ []) ++ decimal n) ++ 10 ∷ []) ++ y → (cause.TooMany a m ≡ cause.TooMany b n) × (x ≡ y)
too_many a b m n x y p q e =
    let f = regroup (in_5 (many_text a) (32 ∷ []) (decimal m) (10 ∷ []) x) (in_5 (many_text b) (32 ∷ []) (decimal n) (10 ∷ []) y) e in
    let r = many_front a b (decimal m ++ 10 ∷ x) (decimal n ++ 10 ∷ y) f in
    let s = number_front m n (10 ∷ x) (10 ∷ y) (short m p) (short n q) refl refl r.1 in
    (ap₂ cause.TooMany r.0 s.0, tails 10 10 x y s.1)

too_many_versions : (a : Many) (m : ℕ) (x y : List ℕ) → (((many_text a ++ 32 ∷ []) ++ decimal m) ++ 10 ∷ []) ++ x ≡ 118 ∷ y → ⊥
too_many_versions a m x y e = not_versions a _ y (regroup (in_5 (many_text a) (32 ∷ []) (decimal m) (10 ∷ []) x) refl e)

-- ---- causes, each before the end of its line

pub cause_front : (a b : Cause) (x y : List ℕ) → IsPrintableCause a → IsPrintableCause b → (cause_text a ++ 10 ∷ []) ++ x ≡ (cause_text b ++ 10 ∷ []) ++ y → (a ≡ b) × (x ≡ y)
cause_front cause.TooLong cause.TooLong x y pa pb e = (refl, append_cancel_left (codes "TooLong\n") x y e)
cause_front cause.NameTooLong cause.NameTooLong x y pa pb e = (refl, append_cancel_left (codes "NameTooLong\n") x y e)
cause_front cause.TypeNotBuilt cause.TypeNotBuilt x y pa pb e = (refl, append_cancel_left (codes "TypeNotBuilt\n") x y e)
cause_front cause.OptionNotBuilt cause.OptionNotBuilt x y pa pb e = (refl, append_cancel_left (codes "OptionNotBuilt\n") x y e)
cause_front cause.TooManyVersions cause.TooManyVersions x y pa pb e = (refl, append_cancel_left (cause_text cause.TooManyVersions ++ codes "\n") x y e)
cause_front cause.UnknownTable cause.UnknownTable x y pa pb e = (refl, append_cancel_left (codes "UnknownTable\n") x y e)
cause_front cause.UnknownStable cause.UnknownStable x y pa pb e = (refl, append_cancel_left (codes "UnknownStable\n") x y e)
cause_front cause.UnknownStream cause.UnknownStream x y pa pb e = (refl, append_cancel_left (codes "UnknownStream\n") x y e)
cause_front cause.UnknownCursor cause.UnknownCursor x y pa pb e = (refl, append_cancel_left (codes "UnknownCursor\n") x y e)
cause_front cause.TargetOfStream cause.TargetOfStream x y pa pb e = (refl, append_cancel_left (codes "TargetOfStream\n") x y e)
cause_front cause.SourceIsTarget cause.SourceIsTarget x y pa pb e = (refl, append_cancel_left (codes "SourceIsTarget\n") x y e)
cause_front cause.NotAStable cause.NotAStable x y pa pb e = (refl, append_cancel_left (codes "NotAStable\n") x y e)
cause_front cause.NotATable cause.NotATable x y pa pb e = (refl, append_cancel_left (codes "NotATable\n") x y e)
cause_front cause.NeedsTags cause.NeedsTags x y pa pb e = (refl, append_cancel_left (codes "NeedsTags\n") x y e)
cause_front cause.NameTaken cause.NameTaken x y pa pb e = (refl, append_cancel_left (codes "NameTaken\n") x y e)
cause_front cause.NeedsTime cause.NeedsTime x y pa pb e = (refl, append_cancel_left (codes "NeedsTime\n") x y e)
cause_front cause.UnknownColumn cause.UnknownColumn x y pa pb e = (refl, append_cancel_left (codes "UnknownColumn\n") x y e)
cause_front cause.Arity cause.Arity x y pa pb e = (refl, append_cancel_left (codes "Arity\n") x y e)
cause_front cause.BadSelect cause.BadSelect x y pa pb e = (refl, append_cancel_left (codes "BadSelect\n") x y e)
cause_front cause.BadWindow cause.BadWindow x y pa pb e = (refl, append_cancel_left (codes "BadWindow\n") x y e)
cause_front cause.BadLimit cause.BadLimit x y pa pb e = (refl, append_cancel_left (codes "BadLimit\n") x y e)
cause_front (cause.Syntax m) (cause.Syntax n) x y pa pb e = let r = one_number (codes "Syntax ") m n x y pa pb e in (ap cause.Syntax r.0, r.1)
cause_front (cause.Stopped m) (cause.Stopped n) x y pa pb e = let r = one_number (codes "Stopped ") m n x y pa pb e in (ap cause.Stopped r.0, r.1)
cause_front (cause.BeforeEdge m) (cause.BeforeEdge n) x y pa pb e = let r = one_number (codes "BeforeEdge ") m n x y pa pb e in (ap cause.BeforeEdge r.0, r.1)
cause_front (cause.TypeMismatch m) (cause.TypeMismatch n) x y pa pb e = let r = one_word (codes "TypeMismatch ") m n x y pa pb e in (ap cause.TypeMismatch r.0, r.1)
cause_front (cause.OutOfRange m) (cause.OutOfRange n) x y pa pb e = let r = one_word (codes "OutOfRange ") m n x y pa pb e in (ap cause.OutOfRange r.0, r.1)
cause_front (cause.TooMany v m) (cause.TooMany w n) x y pa pb e = too_many v w m n x y pa pb (append_cancel_left (codes "TooMany ") _ _ e)
cause_front (cause.TooMany v m) cause.TooManyVersions x y pa pb e = absurd (too_many_versions v m x _ (append_cancel_left (codes "TooMany ") _ _ e))
cause_front cause.TooManyVersions (cause.TooMany w n) x y pa pb e = absurd (too_many_versions w n y _ (append_cancel_left (codes "TooMany ") _ _ (sym e)))
cause_front a b x y pa pb e = absurd (distinct _ _ e refl)
