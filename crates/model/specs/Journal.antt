-- Complete journals: the calls on one hall since its opening, each with its verdict, refused ones too.
use Rattle.std.specs.Prelude.{◌≡◌, List, [], ◌∷◌, ◌++◌}
use Rattle.model.specs.Setup.{Plan}
use Rattle.model.specs.World.{World}
use Rattle.model.specs.Checks.{Call, Verdict, verdict}
use Rattle.model.specs.Checks.Verdict.{accepted}
use Rattle.model.specs.Effects.{after, opening}

-- a line of a journal: a call and the answer to it
pub record Line : Type 0 where
  pub call : Call
  pub answer : Verdict

-- Kept p js w: js is a complete journal of a hall with the plan p, oldest line first, and w the hall's state under its last line
pub data Kept (p : Plan) : List Line → World → Type 0 where
  opened : Kept p [] (opening p)
  called : {js : List Line} {w : World} → Kept p js w → (c : Call)
      → Kept p (js ++ (record { call = c; answer = verdict p w c } ∷ [])) (after p w c)

-- js has a line that accepts the call c, and v was the hall's state above that line
pub record AcceptedAt (p : Plan) (js : List Line) (v : World) (c : Call) : Type 0 where
  pub above : List Line
  pub under : List Line
  pub kept : Kept p above v
  pub here : js ≡ above ++ (record { call = c; answer = accepted } ∷ under)
