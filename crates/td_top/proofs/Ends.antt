-- The line of a status.
use Rattle.std.proofs.Common.{◌≡◌, ◌++◌, codes, refl}
use Rattle.td_top.specs.Exit.{status_text, status_line}
use Rattle.td_top.specs.declared.status.Status.{Status}
use Rattle.td_top.specs.declared.status.Status.TheVariants as status

pub line_is : (s : Status) → (s ≡ status.Done → ⊥) → status_line s ≡ status_text s ++ codes "\n"
line_is status.Done done = absurd (done refl)
line_is status.NoMemory done = refl
line_is status.Usage done = refl
line_is (status.BadScript line) done = refl
line_is status.TooLarge done = refl
line_is status.InputFault done = refl
line_is status.OutputFault done = refl
line_is status.StoreFault done = refl
line_is (status.NotThisStore file at) done = refl
