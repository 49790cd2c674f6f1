-- The moments and the numbers that are still to come.
use Rattle.std.specs.Prelude.{ℕ, ◌+◌, ◌*◌, ◌-◌, ◌^◌, ◌%◌, min}
use Rattle.host_memory.specs.declared.mem_clock.MemClock.{MemClock}
use Rattle.host_memory.specs.declared.mem_clock.MemRandom.{MemRandom}

-- each moment is a step later than the one before, and the last one is 2^64 - 1
abbrev pub moments_of : MemClock → ℕ → ℕ
moments_of c n = min (c.moment + n * c.step) (2 ^ 64 - 1)

-- each number is a step greater than the one before, and they go round at 2^64
abbrev pub draws_of : MemRandom → ℕ → ℕ
draws_of r n = (r.number + n * r.step) % (2 ^ 64)
