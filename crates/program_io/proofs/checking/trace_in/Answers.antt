use Rattle.std.proofs.Common.{◌≡◌, ℕ, suc, arith, length, subst, sym}
use Rattle.program_io.specs.TraceRead.{IsBadTraceLine}
use Rattle.program_io.specs.declared.checking.TheConstants.{TRACE_BYTES}
use Rattle.program_io.proofs.TraceLines.{last_line}
use Rattle.program_io.proofs.checking.trace_in.Goals as goal

pub returns-then-bytes-gt-TRACE_BYTES-clause-refused : goal.returns-then-bytes-gt-TRACE_BYTES-clause-refused
returns-then-bytes-gt-TRACE_BYTES-clause-refused c =
    let long : length c.args.bytes.now ≡ suc TRACE_BYTES = omega (arith, c.requires, c.if-bytes-gt-TRACE_BYTES.true) in
    subst (λ (n : ℕ). IsBadTraceLine TRACE_BYTES c.args.bytes.now n) (sym c.len.ensures) (last_line TRACE_BYTES c.args.bytes.now c.in_ok-trace.trace long c.in_ok-trace.ensures.text)
