use Rattle.std.proofs.Common.{◌≡◌, ◌∙◌, ap, sym, arith, true, false, None, Option, ℕ}
use Rattle.kv_resource.specs.Bytes.{are_spelled, is_above, number32}
use Rattle.kv_resource.proofs.Loops.{ends, goes_on, is_done, last_key, last_push, spelled_push}
use Rattle.kv_resource.proofs.reading.read_writes.Goals as goal

pub returns-then-not-is_above-clause-writes : goal.returns-then-not-is_above-clause-writes
returns-then-not-is_above-clause-writes c =
    let test : is_above c.loop-i.before (number32 c.loop-i.rest.now) ≡ false = ap (is_above c.loop-i.before) (sym c.u32_at-key.ensures) ∙ sym c.is_above.ensures ∙ c.if-not-is_above.true in
    ends _ _ _ _ _ _ c.loop-i-test.true test c.loop-i.invariant.read

pub loop-i-preserved : goal.loop-i-preserved
loop-i-preserved c =
    let b = c.loop-i.rest.now in
    let i = c.loop-i.invariant in
    let w : ℕ × ℕ = (c.u32_at-key.result, c.u64_at.result) in
    let above : is_above c.loop-i.before c.u32_at-key.result ≡ true = sym c.is_above.ensures ∙ c.if-not-is_above.false in
    let test : is_above c.loop-i.before (number32 b) ≡ true = ap (is_above c.loop-i.before) (sym c.u32_at-key.ensures) ∙ above in
    let e = c.push.ensures.items in
    let key = c.u32_at-key.ensures in
    let value = c.u64_at.ensures in
    let back = c.split_at.ensures.back in
    record {
      read = rw (e, back, key, value) (goes_on _ _ _ _ _ _ c.loop-i-test.true test i.read);
      count = omega (arith, c.push.ensures.len, i.count);
      last = ap (last_key None) e ∙ last_push None c.loop-i.writes.items w;
      spelled = ap (are_spelled None) e ∙ spelled_push None c.loop-i.writes.items w i.spelled (ap (λ (o : Option ℕ). is_above o c.u32_at-key.result) i.last ∙ above) c.u32_at-key.type_inv c.u64_at.type_inv;
      long = let long = i.long in omega (arith, long, c.split_at.ensures.back_len);
    }

pub returns-clause-writes : goal.returns-clause-writes
returns-clause-writes c = is_done _ _ _ _ _ _ _ c.loop-i-test.false c.loop-i.invariant.read
