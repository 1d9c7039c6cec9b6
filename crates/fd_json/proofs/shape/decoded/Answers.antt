use Rattle.std.proofs.Common.{Some, sym, ap, ◌∙◌}
use Rattle.base64.specs.Engines.{standard}
use Rattle.base64.specs.GeneralPurpose.{decoded_of}
use Rattle.fd_json.proofs.TextLemmas.{decoded_ok, decoded_err}
use Rattle.fd_json.proofs.shape.decoded.Goals as goal

pub returns-in-Ok : goal.returns-in-Ok
returns-in-Ok c = ap (λ b. Some b) c.from_vec.ensures ∙ sym (decoded_ok standard c.as_bytes.result.now _ c.in-Ok.ensures.ok) ∙ ap (decoded_of standard) c.as_bytes.ensures.value

pub returns-in-Err-DecodeError : goal.returns-in-Err-DecodeError
returns-in-Err-DecodeError c = sym (decoded_err standard c.as_bytes.result.now _ (rw c.in-Err-DecodeError.field-0-is at c.in-Err-DecodeError.ensures.err)) ∙ ap (decoded_of standard) c.as_bytes.ensures.value
