-- Document 01, "Runs to agree on": the small byte vectors, as numbers, computed from the definition.
-- Assumes nothing.
use mathlib.Core.Path.{◌≡◌, refl}
use mathlib.Core.List.{[], ◌∷◌}
use Rattle.words.specs.Answer.{refused}
use Rattle.words.specs.Number.{reading, byte_at, groups, number_at, shortest, number_of}

-- bytes 80 00
pub not_shortest : number_at (0x80 ∷ 0x00 ∷ []) 0 ≡ refused 2 0
unfolding byte_at groups number_at
not_shortest = refl

-- byte 80
pub cut_off : number_at (0x80 ∷ []) 0 ≡ refused 1 0
unfolding byte_at groups number_at
cut_off = refl

-- no bytes
pub no_bytes : number_at [] 0 ≡ refused 1 0
unfolding byte_at groups number_at
no_bytes = refl

-- the largest word, in five bytes
pub largest : number_at (0xff ∷ 0xff ∷ 0xff ∷ 0xff ∷ 0x0f ∷ []) 0 ≡ reading 0xffff_ffff 5
unfolding byte_at groups number_at
largest = refl

pub largest_written : number_of 0xffff_ffff ≡ 0xff ∷ 0xff ∷ 0xff ∷ 0xff ∷ 0x0f ∷ []
unfolding shortest number_of
largest_written = refl

-- a fifth byte over 15
pub too_large : number_at (0xff ∷ 0xff ∷ 0xff ∷ 0xff ∷ 0x10 ∷ []) 0 ≡ refused 2 0
unfolding byte_at groups number_at
too_large = refl
