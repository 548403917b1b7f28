-- The items of a log as bytes.
use Rattle.std.specs.Prelude.{ℕ, ◌+◌, ◌-◌, ◌==◌, ◌&&◌, ◌++◌, nat_lt, nat_le, Bool, true, if◌then◌else◌, List, [], length, take, drop, Option, Some, None, Ok, Err}
use Rattle.std.specs.Int.{w8, w32, w64, to_le_bytes}
use Rattle.td_limits.specs.declared.limits.TheConstants.{LAST_VERSION, LAST_TIMESTAMP, SESSIONS}
use Rattle.td_model.specs.declared.windows.WinKey.{WinKey}
use Rattle.td_model.specs.declared.windows.WinRow.{WinRow}
use Rattle.td_codec.specs.Fields.{Read, Field, number, unknown, checked, pair, followed, made, tagged}
use Rattle.td_codec.specs.Values.{win_key_list, win_row_list}
use Rattle.td_wal.specs.declared.item.LogItem.{LogItem}
use Rattle.td_wal.specs.declared.item.LogBody.{LogBody}
use Rattle.td_wal.specs.declared.item.LogBody.TheVariants as bodies

-- ---- a part of so many bytes

-- all the bytes
abbrev pub all_bytes : Field (List ℕ)
all_bytes = record { read = λ bytes. Ok (bytes, []); spelled = λ t. t; fits = λ _. true }

-- What was read of a part must be all of it. Bytes left over are a fault at the first of them. Behind the part so many
-- bytes stand, these.
abbrev pub ended : {A : Type 0} → ℕ → List ℕ → Read A → Read A
ended more rest (Ok x) = (if length x.1 == 0 then Ok (x.0, rest) else Err (length x.1 + more))
ended more rest (Err left) = Err (left + more)

-- a field in a part of so many bytes, which it fills; where there are fewer, its first byte is at fault
abbrev pub enclosed : {A : Type 0} → ℕ → Field A → Field A
enclosed n field = record {
  read = λ bytes. (if nat_lt (length bytes) n then Err (length bytes)
      else ended (length bytes - n) (drop n bytes) (field.read (take n bytes)));
  spelled = field.spelled;
  fits = λ x. field.fits x && (length (field.spelled x) == n);
}

-- ---- bodies

-- a stream's number, the version up to which its step goes, and the step's moment
abbrev pub StepHead : Type 0
StepHead = ℕ × (ℕ × ℕ)

abbrev pub StepBody : Type 0
StepBody = StepHead × (List WinKey × List WinRow)

-- a step goes up to a version below its item's, and its moment is at most its item's
abbrev pub is_step_of : ℕ → ℕ → StepHead → Bool
is_step_of version moment step = nat_lt step.1.0 version && nat_le step.1.1 moment

unfoldable pub step_head : ℕ → ℕ → Field StepHead
step_head version moment = checked (pair (number w32) (pair (number w64) (number w64))) (is_step_of version moment)

-- a step: what it is, the windows removed, and the rows added
unfoldable pub step : ℕ → ℕ → Field StepBody
step version moment = pair (step_head version moment) (pair win_key_list win_row_list)

abbrev pub step_of : StepBody → LogBody
step_of p = bodies.Step p.0.0 p.0.1.0 p.0.1.1 (record { removed = p.1.0; added = p.1.1 })

abbrev pub as_step : LogBody → Option StepBody
as_step (bodies.Text t) = None
as_step (bodies.Step stream upto moment delta) = Some ((stream, (upto, moment)), (delta.removed, delta.added))

abbrev pub as_text : LogBody → Option (List ℕ)
as_text (bodies.Text t) = Some t
as_text (bodies.Step stream upto moment delta) = None

abbrev pub body_kind : LogBody → ℕ
body_kind (bodies.Text t) = 1
body_kind (bodies.Step stream upto moment delta) = 2

-- a body of a kind, in so many bytes, of an item of this version and moment
unfoldable pub body_form : ℕ → ℕ → ℕ → ℕ → Field LogBody
body_form version moment size kind =
    (if kind == 1 then made (enclosed size all_bytes) (λ t. bodies.Text t) as_text
    else (if kind == 2 then made (enclosed size (step version moment)) step_of as_step
    else unknown))

-- a kind, 1 or 2, and a body of that kind
unfoldable pub body : ℕ → ℕ → ℕ → Field LogBody
body version moment size =
    tagged (checked (number w8) (λ kind. nat_le 1 kind && nat_le kind 2)) body_kind (body_form version moment size)

unfoldable pub body_bytes : LogBody → List ℕ
body_bytes (bodies.Text t) = t
body_bytes (bodies.Step stream upto moment delta) =
    (step 0 0).spelled ((stream, (upto, moment)), (delta.removed, delta.added))

-- ---- items

-- how many bytes the body has, version, moment, session, ordinal
abbrev pub ItemHead : Type 0
ItemHead = ℕ × (ℕ × (ℕ × (ℕ × ℕ)))

abbrev pub version_field : ℕ → Field ℕ
version_field version = checked (number w64) (λ v. (v == version) && nat_le v LAST_VERSION)

abbrev pub moment_field : ℕ → Field ℕ
moment_field least = checked (number w64) (λ m. nat_le least m && nat_le m LAST_TIMESTAMP)

abbrev pub session_field : Field ℕ
session_field = checked (number w32) (λ s. nat_le s SESSIONS)

-- An item has this version, which isn't beyond the last; a moment from this one on, up to the last; a session, or 0 for
-- none; and an ordinal.
unfoldable pub item_head : ℕ → ℕ → Field ItemHead
item_head version least =
    pair (number w32) (pair (version_field version) (pair (moment_field least) (pair session_field (number w32))))

abbrev pub item_of : ItemHead × LogBody → LogItem
item_of p = record { version = p.0.1.0; moment = p.0.1.1.0; session = p.0.1.1.1.0; ordinal = p.0.1.1.1.1; body = p.1 }

abbrev pub head_of : LogItem → ItemHead
head_of i = (length (body_bytes i.body), (i.version, (i.moment, (i.session, i.ordinal))))

abbrev pub item_parts : LogItem → Option (ItemHead × LogBody)
item_parts i = Some (head_of i, i.body)

-- an item of this version, and of a moment from this one on
unfoldable pub item : ℕ → ℕ → Field LogItem
item version least = made (followed (item_head version least) (λ h. body h.1.0 h.1.1.0 h.0)) item_of item_parts

-- The bytes of an item. They don't depend on what stands before it.
unfoldable pub item_bytes : LogItem → List ℕ
item_bytes i =
    (to_le_bytes w32 (length (body_bytes i.body))
    ++ (to_le_bytes w64 i.version ++ (to_le_bytes w64 i.moment
    ++ (to_le_bytes w32 i.session ++ to_le_bytes w32 i.ordinal))))
    ++ (to_le_bytes w8 (body_kind i.body) ++ body_bytes i.body)
