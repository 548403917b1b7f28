-- What is true of a catalog's streams stays true as one is dropped.
use Rattle.std.proofs.Common.{◌≡◌, ℕ, Bool, true, false, cond, List, [], ◌∷◌, filter, ap, refl}
use Rattle.std.specs.Map.{values_of}
use Rattle.td_model.specs.declared.catalog.StreamEntry.{StreamEntry}
use Rattle.td_catalog.specs.Inside.{AreTargets}

-- the values of the entries that pass a test of their values are the values that pass
pub values-filter : {K X : Type 0} (p : X → Bool) (es : List (K × X)) → values_of (filter (λ e. p e.1) es) ≡ filter p (values_of es)
values-filter p [] = refl
values-filter {K} {X} p (e ∷ es) = by (p e.1) (filter (λ e. p e.1) es) (filter p (values_of es)) (values-filter p es)
  where
    by : (b : Bool) (ds : List (K × X)) (vs : List X) → values_of ds ≡ vs → values_of (cond b (e ∷ ds) ds) ≡ cond b (e.1 ∷ vs) vs
    by true ds vs h = ap (λ r. e.1 ∷ r) h
    by false ds vs h = h

pub targets-filter : {K L : Type 0} (read : K → List ℕ) (p : ℕ → Bool) (es : List (L × StreamEntry)) (ts : List (K × ℕ)) → AreTargets read es ts → AreTargets read (filter (λ e. p e.1.number) es) (filter (λ t. p t.1) ts)
targets-filter read p [] [] h = tt
targets-filter read p [] (t ∷ ts) h = absurd h
targets-filter read p (e ∷ es) [] h = absurd h
targets-filter {K} {L} read p (e ∷ es) (t ∷ ts) h = by (p e.1.number) (p t.1) (ap p h.1) (filter (λ e. p e.1.number) es) (filter (λ t. p t.1) ts) (targets-filter read p es ts h.2)
  where
    by : (b c : Bool) → c ≡ b → (ds : List (L × StreamEntry)) (us : List (K × ℕ)) → AreTargets read ds us → AreTargets read (cond b (e ∷ ds) ds) (cond c (t ∷ us) us)
    by true true q ds us r = (h.0, h.1, r)
    by false false q ds us r = r
    by true false q ds us r = absurd (cc)
    by false true q ds us r = absurd (cc)
