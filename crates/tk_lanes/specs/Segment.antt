-- A clock as a straight line over the cycles since the last command.
use Rattle.std.specs.Prelude.{Bool, MatchBool, map, Ok, ◌≡◌, ◌<◌, ◌≤◌, ℕ, ◌+◌, ◌-◌, ◌*◌, ◌/◌, ◌%◌, ◌^◌, List, bit_and, nat_lt, if◌then◌else◌}
use Rattle.std.specs.Simd.Lanes.{chunk, put_chunk, Each1}
use Rattle.tk_clock.specs.declared.clock_id.ClockId.{ClockId}
use Rattle.tk_clock.specs.State.{ReadBase}
use Rattle.tk_clock.specs.Read.{read_of}
use Rattle.tk_lanes.specs.declared.segment.Segment.{Segment}

-- the number of stamps that are converted at a time
abbrev pub lane_count : ℕ
lane_count = 8

-- the cycles from the last reading to a stamp, in 64-bit words: 0 if the stamp is behind
unfoldable pub segment_cycles : Segment → ℕ → ℕ
segment_cycles segment stamp =
    let gap = bit_and ((stamp + (2 ^ 64 - segment.last)) % 2 ^ 64) segment.mask in
    if nat_lt segment.half gap then 0 else gap

-- the segment's value after a number of cycles, in nanoseconds
unfoldable pub nanos_after : Segment → ℕ → ℕ
nanos_after segment cycles =
    (cycles * segment.mult + segment.frac) / 2 ^ segment.shift + segment.base

-- the segment's value at a stamp, in nanoseconds
abbrev pub segment_nanos : Segment → ℕ → ℕ
segment_nanos segment stamp = nanos_after segment (segment_cycles segment stamp)

-- the stamp is a reading of the counter, and within the segment's span
pub record IsNear (segment : Segment) (stamp : ℕ) : Type 0 where
  pub near : segment_cycles segment stamp ≤ segment.span
  pub read : stamp ≤ segment.mask

-- all stamps of a list are near
abbrev pub IsEachNear : Segment → List ℕ → Type 0
IsEachNear segment stamps = Each1 (IsNear segment) stamps

-- the eight stamps starting at index `at` are near and converted, or nothing is written
abbrev pub IsEightConverted : Segment → List ℕ → ℕ → List ℕ → List ℕ → Bool → Type 0
IsEightConverted segment stamps at old new converted =
    let lanes = chunk at lane_count stamps in
    MatchBool converted
    (IsEachNear segment lanes × (new ≡ put_chunk at old (map (segment_nanos segment) lanes)))
    (new ≡ old)

-- the numbers of a segment fit one another and 64-bit words
pub record IsFitting (segment : Segment) : Type 0 where
  pub shift : segment.shift ≤ 32
  pub frac : segment.frac < 2 ^ segment.shift
  pub half : segment.half < 2 ^ 63
  pub leads : segment.span ≤ segment.half
  pub value : nanos_after segment segment.span < 2 ^ 64
  pub near : segment.ahead ≤ segment.span
  pub read : segment.last + segment.ahead ≤ segment.mask
  pub whole : (gap : ℕ) → gap ≤ segment.mask → bit_and gap segment.mask ≡ gap

-- within its span the segment's value is the clock's value
abbrev pub IsSegment : ReadBase → ClockId → Segment → Type 0
IsSegment base clock segment =
    (stamp : ℕ) → stamp < 2 ^ 64 → IsNear segment stamp →
    read_of base clock stamp ≡ Ok (segment_nanos segment stamp)
