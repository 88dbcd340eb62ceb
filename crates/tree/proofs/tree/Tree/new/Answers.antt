use Rattle.std.proofs.Common.{false, [], Option, None, is_some, refl}
use Rattle.tree.specs.Blocks.{parent_of, places_of}
use Rattle.tree.specs.declared.tree.Block.{Block}
use Rattle.tree.proofs.Unmade.{each_repeated}
use Rattle.tree.proofs.tree.Tree.new.Goals as goal

pub returns : goal.returns
returns c = record {
  made = λ i k. each_repeated {A = Option Block} is_some None None false refl refl 313 k i;
  parent = λ i k. each_repeated parent_of None None 0 refl refl 313 k i;
  places = λ i k. each_repeated places_of None None [] refl refl 313 k i;
}
