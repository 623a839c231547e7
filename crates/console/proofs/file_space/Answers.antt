-- The buffer is the list that the contract names, as it computes: a buffer of another byte differs, and is refused for that.
use Rattle.std.proofs.Common.{refl}
use Rattle.console.proofs.file_space.Goals as goal

pub returns : goal.returns
returns c = refl
