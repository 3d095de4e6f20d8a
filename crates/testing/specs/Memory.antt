-- The devices in memory, as their clauses see them (docs/SPECIFICATION.md, The filter as a library).
use Rattle.std.specs.Prelude.{◌≡◌, ℕ, Bool, List}
use Rattle.testing.specs.declared.memory.MemSource.{MemSource}
use Rattle.testing.specs.declared.memory.MemSink.{MemSink}

-- the bytes that a source has left
abbrev pub left_in : MemSource → List ℕ
left_in source = source.rest.now

-- whether its reads fail after the last byte
abbrev pub fails_after : MemSource → Bool
fails_after source = source.fails

-- the most bytes that a read gives
abbrev pub read_limit : MemSource → ℕ
read_limit source = source.piece

-- two states of a source with the same limit, whose reads fail alike after the last byte
pub record GivesAlike (old new : MemSource) : Type 0 where
  pub limit : read_limit new ≡ read_limit old
  pub fails : fails_after new ≡ fails_after old

-- the bytes that a sink holds
abbrev pub held_by : {N : ℕ} → MemSink N → List ℕ
held_by sink = sink.held.items

-- the most bytes that a write takes
abbrev pub write_limit : {N : ℕ} → MemSink N → ℕ
write_limit sink = sink.piece

-- the most bytes that a sink holds
abbrev pub room_of : {N : ℕ} → MemSink N → ℕ
room_of sink = sink.limit

-- two states of a sink with the same limits
pub record TakesAlike {N : ℕ} (old new : MemSink N) : Type 0 where
  pub limit : write_limit new ≡ write_limit old
  pub room : room_of new ≡ room_of old
