-- `read_all`: the buffers hold what was read so far.
use Rattle.std.proofs.Common.{◌≡◌, length}
use Rattle.standard_streams.specs.Reading.{Holds}
use Rattle.standard_streams.proofs.read_all.Given as goal

abbrev pub invariant-loop : goal.invariant-loop
invariant-loop g l = record {
  held : Holds l.initial.line l.initial.rest l.line l.rest l.at;
  line_length : length l.line ≡ length l.initial.line;
  rest_length : length l.rest ≡ length l.initial.rest;
}
