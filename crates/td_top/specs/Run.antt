-- What a run of the program did.
use Rattle.std.specs.Prelude.{◌≡◌, ◌↔◌, false, ℕ, List, Option, None, IsSome}
use Rattle.td_outside.specs.Image.{Image}
use Rattle.td_top.specs.Stream.{TookFew, GaveFew}
use Rattle.td_top.specs.Status.{Outside, outside, effects, Says, Completes, writes, enters}
use Rattle.td_top.specs.declared.status.Status.{Status}
use Rattle.td_top.specs.declared.status.Status.TheVariants as status

-- The devices at a moment, with what stands outside.
pub record Devices (I O P : Type 0) : Type 0 where
  pub input : I
  pub out : O
  pub place : P
  pub outside : Outside

-- the devices, with what a source, a sink and a place tell and count
abbrev pub seen : {I O P : Type 0}
    → (I → Option (List ℕ)) → (I → ℕ) → (I → ℕ) → (O → Option (List ℕ)) → (O → ℕ)
    → (P → Option Image) → (P → ℕ) → (P → ℕ) → I → O → P → Devices I O P
seen left given input_faults written output_faults told place_faults taken input out place =
    record {
      input = input;
      out = out;
      place = place;
      outside = outside left given input_faults input (effects written output_faults told place_faults taken out place);
    }

-- A run over the directory that its words name, if they are a command, which ended with a status.
pub record Runs {I O P : Type 0}
    (dir : Option (List ℕ)) (readings : Option (List ℕ)) (before after : Devices I O P) (s : Status)
    : Type 0 where
  -- Usage comes exactly where the words are no command, and then nothing is read
  pub usage : (s ≡ status.Usage) ↔ (dir ≡ None)
  pub unread : s ≡ status.Usage → after.input ≡ before.input
  -- the status says what stands outside, and over devices that tell what they hold this determines it
  pub says : IsSome dir → Says readings before.outside after.outside s
  pub complete : IsSome dir → Completes before.outside after.outside s
  -- the source gave at most one byte more than a script may have
  pub few : TookFew before.outside.left after.outside.left
  pub given : GaveFew before.outside.given after.outside.given
  -- with a status that writes nothing the sink isn't touched
  pub sink : writes s ≡ false → after.out ≡ before.out
  -- with a status that comes before the place is entered, the place stays as it was
  pub place : enters s ≡ false → after.place ≡ before.place
