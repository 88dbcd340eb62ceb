-- The ranks are the rest of the bytes.
use Rattle.std.proofs.Common.{rules}
use Rattle.std.proofs.lemmas.List.{take_rest}
use Rattle.frames.proofs.decode.decode_setup.Goals as goal

pub returns-in-4 : goal.returns-in-4
returns-in-4 c = rw take_rest (search rules)
