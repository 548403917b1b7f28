-- Rows of some keys alone.
use Rattle.std.specs.Prelude.{◌≡◌, Bool, true, List, map, filter}
use Rattle.td_layer.specs.declared.values.Key.{Key}
use Rattle.td_fileset.specs.Stack.{Layer, row_at, rows_of}

-- pairs whose keys pass a test
abbrev pub only : {X : Type 0} → (Key → Bool) → List (Key × X) → List (Key × X)
only {X} test pairs = filter (λ (e : Key × X). test e.0) pairs

-- a layer with the partials alone whose keys pass a test, and all its cuts
abbrev pub narrowed : (Key → Bool) → Layer → Layer
narrowed test l = record { cuts = l.cuts; partials = only test l.partials }

-- Layers of which the partials of some keys alone are taken make the rows of those keys.
abbrev pub NarrowAlike : Type 0
NarrowAlike =
    (test : Key → Bool) (layers : List Layer) → rows_of (map (narrowed test) layers) ≡ only test (rows_of layers)

-- Layers that make the same row of each of some keys make the same rows of them.
abbrev pub MakeAlike : Type 0
MakeAlike =
    (test : Key → Bool) (layers others : List Layer)
    → ((key : Key) → test key ≡ true → row_at key layers ≡ row_at key others)
    → only test (rows_of layers) ≡ only test (rows_of others)
