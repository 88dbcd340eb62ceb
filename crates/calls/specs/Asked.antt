-- The call of the rules that a call of the code stands for.
use Rattle.std.specs.Prelude.{ℕ}
use Rattle.model.specs.Checks.{Call as Asked}
use Rattle.model.specs.Checks.Call.{tick, enter, propose, echo, finish, commit, deliver, forge, seal}
use Rattle.calls.specs.declared.Call.{Call}
use Rattle.calls.specs.declared.Call.TheVariants.{Tick, Enter, Propose, Echo, Finish, Commit, Deliver, Forge, Seal}

abbrev pub asked : Call → Asked
asked (Tick seat time) = tick seat time
asked (Enter seat) = enter seat
asked (Propose seat parent places) = propose seat parent places.now
asked (Echo seat block) = echo seat block
asked (Finish seat block) = finish seat block
asked (Commit seat block) = commit seat block
asked (Deliver seat kind signer subject) = deliver seat kind signer subject
asked (Forge seat round parent places) = forge seat round parent places.now
asked (Seal seat kind subject) = seal seat kind subject

-- the block, parent or message subject that a call names: 0 where it names none
abbrev pub named_subject : Asked → ℕ
named_subject (tick _ _) = 0
named_subject (enter _) = 0
named_subject (propose _ parent _) = parent
named_subject (echo _ block) = block
named_subject (finish _ block) = block
named_subject (commit _ block) = block
named_subject (deliver _ _ _ subject) = subject
named_subject (forge _ _ parent _) = parent
named_subject (seal _ _ subject) = subject
