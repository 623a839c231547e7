-- Document 01, "What the contracts must shut out": that a contract leaves one answer, and one content of each buffer that the
-- function may write. A contract is given as the checker has it: the signature T, and what the `ensures` say of the arguments, the
-- answer and the parameters at exit.
-- Assumes nothing.
use Rattle.std.specs.Prelude.{◌≡◌}
use contract.Lifetimes.{Lfts}
use denote.Triple.Entry.{Args, Res}
use denote.Triple.Clauses.{Ended, Lasts, AtExit, at_exit}

-- what the `ensures` of a function can be, at each choice of the lifetimes
abbrev pub Promise : Ended → Type 1
Promise T = (κs : Lfts T.signature.lifetimes) → Args T.signature κs → Res T.signature κs → AtExit T κs → Type 0

-- an answer, with what each lent buffer holds at exit
abbrev pub Outcome : (T : Ended) (κs : Lfts T.signature.lifetimes) → Args T.signature κs → Type 0
Outcome T κs a = Res T.signature κs × Lasts T κs a

-- the outcome keeps the promise
abbrev pub Keeps : (T : Ended) → Promise T → (κs : Lfts T.signature.lifetimes) (a : Args T.signature κs) → Outcome T κs a → Type 0
Keeps T promise κs a o = promise κs a o.0 (at_exit T κs a o.1)

-- for every input, any two outcomes that keep the promise are one
abbrev pub OneAnswer : (T : Ended) → Promise T → Type 0
OneAnswer T promise =
    (κs : Lfts T.signature.lifetimes) (a : Args T.signature κs) (o u : Outcome T κs a) →
    Keeps T promise κs a o → Keeps T promise κs a u → o ≡ u

-- some input has two answers that both keep the promise
abbrev pub TwoAnswers : (T : Ended) → Promise T → Type 0
TwoAnswers T promise =
    (κs : Lfts T.signature.lifetimes) →
    (a : Args T.signature κs) × (o : Outcome T κs a) × (u : Outcome T κs a) ×
    Keeps T promise κs a o × Keeps T promise κs a u × (o.0 ≡ u.0 → ⊥)
