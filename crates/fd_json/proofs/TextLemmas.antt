use Rattle.std.proofs.Common.{◌≡◌, ◌↔◌, ℕ, Result, List, [], ◌∷◌, Bool, true, false, Option, Some, None, Ok, Err, if◌then◌else◌, IsUtf8, refl, ap}
use Rattle.std.specs.Str.{is_utf8}
use Rattle.std.proofs.lemmas.Str.{IsUtf8-from_is_utf8, is_utf8-from_IsUtf8}
use Rattle.base64.specs.GeneralPurpose.{decode_of, decoded_of, encode_of, IsBytes}
use Rattle.base64.specs.Engines.{standard}
use Rattle.base64.proofs.EngineFacts.{decode_of_iff}
use Rattle.base64.specs.declared.engine.general_purpose.GeneralPurpose.{GeneralPurpose}
use Rattle.base64.specs.declared.decode.DecodeError.{DecodeError}
use Rattle.std.specs.Result.{result_ok}
use Rattle.serde_json.specs.Data.{Data}
use Rattle.serde_json.specs.Read.{read}
use Rattle.serde_json.specs.View.{items_of}
use Rattle.fd_json.specs.Json.{json_of, list_of}

pub list_of-items_of : (ds : List Data) → list_of (items_of ds) ≡ ds
list_of-items_of [] = refl
list_of-items_of (d ∷ ds) = ap (λ rest. d ∷ rest) (list_of-items_of ds)

pub json_of_text : (bytes : List ℕ) (o : Option Data) → IsUtf8 bytes → read bytes ≡ o → json_of bytes ≡ o
json_of_text bytes o utf8 is = rw (is_utf8-from_IsUtf8 bytes utf8) is

json_of_other-at : (bytes : List ℕ) (b : Bool) → is_utf8 bytes ≡ b → (IsUtf8 bytes → read bytes ≡ None) → (if b then read bytes else None) ≡ None
json_of_other-at bytes true is none = none (IsUtf8-from_is_utf8 bytes is)
json_of_other-at bytes false is none = refl

pub json_of_other : (bytes : List ℕ) → (IsUtf8 bytes → read bytes ≡ None) → json_of bytes ≡ None
json_of_other bytes none = json_of_other-at bytes (is_utf8 bytes) refl none

pub decoded_ok : (e : GeneralPurpose) (s b : List ℕ) → decode_of e s ≡ Ok b → decoded_of e s ≡ Some b
unfolding decoded_of
decoded_ok e s b is = ap result_ok is

pub decoded_err : (e : GeneralPurpose) (s : List ℕ) (d : DecodeError) → decode_of e s ≡ Err d → decoded_of e s ≡ None
unfolding decoded_of
decoded_err e s d is = ap result_ok is

pub ruleset items_steps = list_of-items_of

from_decoded : (r : Result (List ℕ) DecodeError) (b : List ℕ) → result_ok r ≡ Some b → r ≡ Ok b
from_decoded (Ok x) b is = cc
from_decoded (Err e) b is = cc

-- a text stands for the bytes of which it is the base64
pub decoded_iff : (s b : List ℕ) → IsBytes s → IsBytes b → (decoded_of standard s ≡ Some b) ↔ (s ≡ encode_of standard b)
unfolding decoded_of
decoded_iff s b text bytes =
    let same = decode_of_iff standard s b (refl, refl) text bytes in
    (λ h. same.0 (from_decoded (decode_of standard s) b h), λ h. ap result_ok (same.1 h))
