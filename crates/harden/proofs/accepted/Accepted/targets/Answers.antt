-- `Accepted::targets` meets its contract: a target of an accepted source is a node of it. Assumes nothing.
use Rattle.harden.proofs.Answers.{facts}
use Rattle.harden.proofs.Successors.{targets_inside}
use Rattle.harden.proofs.accepted.Accepted.targets.Goals as goal

pub returns-clause-inside : goal.returns-clause-inside
returns-clause-inside c = targets_inside _ _ _ _ ((facts c.args.self.now).node_in _ c.requires) c.targets.ensures
