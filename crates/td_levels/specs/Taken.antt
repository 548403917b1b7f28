-- What an entry puts into the memtable that takes entries.
use Rattle.std.specs.Prelude.{ℕ, List, [], ◌∷◌, length, All, ⊤}
use Rattle.td_layer.specs.Columns.{AreColumnCells}
use Rattle.td_model.specs.declared.history.Put.{Put}
use Rattle.td_model.specs.declared.history.What.{What}
use Rattle.td_model.specs.declared.history.What.TheVariants as what
use Rattle.td_memtable.specs.Contents.{Contents, with_put, with_cut}

-- a memtable with puts, one after another, of which each new key is born at the moment
abbrev pub with_puts : ℕ → List Put → Contents → Contents
with_puts moment [] m = m
with_puts moment (p ∷ ps) m =
    with_puts moment ps (with_put p.key (record { birth = record { born = moment }; cells = p.cells }) m)

-- the memtable after an entry of a moment: only puts and cuts are kept there
abbrev pub taken : What → ℕ → Contents → Contents
taken (what.Put puts) moment m = with_puts moment puts m
taken (what.Cut table lo hi) moment m = with_cut table lo hi m
taken w moment m = m

-- how many parts of a memtable an entry has
abbrev pub parts_of : What → ℕ
parts_of (what.Put puts) = length puts
parts_of (what.Cut table lo hi) = 1
parts_of w = 0

-- the cells of an entry's puts can stand in columns
abbrev pub HasColumnCells : What → Type 0
HasColumnCells (what.Put puts) = All (λ (p : Put). AreColumnCells p.cells) puts
HasColumnCells w = ⊤
