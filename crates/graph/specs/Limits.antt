-- Document 01, "The graph": how large a runnable and a source graph may be, and which kinds it may hold.
-- Assumes nothing.
use Rattle.graph.specs.declared.Limits.{Limits}

abbrev pub runnable : Limits
runnable = record { registers = 64; nodes = 2050; kinds = 8 }

-- kind 8, the catch, is no source's
abbrev pub source : Limits
source = record { registers = 62; nodes = 256; kinds = 7 }
