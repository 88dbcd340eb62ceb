-- A forgery's places are the rest of its bytes.
use Rattle.std.proofs.Common.{rules}
use Rattle.std.proofs.lemmas.List.{take_rest}
use Rattle.frames.proofs.decode.decode_message_call.Goals as goal

pub returns-in-23 : goal.returns-in-23
returns-in-23 c = rw take_rest (search rules)
