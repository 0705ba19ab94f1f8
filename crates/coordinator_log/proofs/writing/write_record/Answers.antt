use Rattle.std.proofs.Common.{arith, ◌≡◌, ◌∙◌, ◌++◌, ◌∷◌, [], ◌+◌, ◌-◌, ◌*◌, ap, take, drop, length, map, ℕ, List, sym}
use Rattle.std.proofs.lemmas.List.{length-map, take_all}
use Rattle.std.specs.List.{flat_map}
use Rattle.std.specs.Int.{w16, w128, to_be_bytes, to_le_bytes}
use Rattle.dtx_values.specs.declared.number.EnlNo.{EnlNo}
use Rattle.dtx_values.specs.declared.number.RmNo.{RmNo}
use Rattle.dtx_values.specs.RecoveryInfo.{pair_bytes, pair_of}
use Rattle.dtx_model.specs.Log.{record_of}
use Rattle.slotted.proofs.Heads.{whole_of}
use Rattle.slotted.proofs.SlotWrites.{drop_less}
use Rattle.coordinator_log.specs.Spelling.{front_bytes, record_bytes}
use Rattle.coordinator_log.proofs.Loops.{join_three, pair_more}
use Rattle.coordinator_log.proofs.writing.write_record.Goals as goal

pub loop-i-init : goal.loop-i-init
unfolding front_bytes
loop-i-init c =
    let r = c.args.r.now in
    let count : length c.pairs-pairs.result.now ≡ length (record_of r).enlistments =
    ap (λ (ps : List (RmNo × EnlNo)). length ps) c.pairs-pairs.ensures ∙ sym (length-map (take r.count r.durables) pair_of) in
    let second = c.put-2.ensures.front 3 (omega arith) ∙ ap (λ (l : List ℕ). take 1 c.put.new.into ++ l) (c.to_le_bytes-counts.ensures ∙ ap (to_le_bytes w16) count) in
    let third = c.put-3.ensures.front 19 (omega arith) ∙ ap (λ (l : List ℕ). take 3 c.put-2.new.into ++ l) c.to_be_bytes-ids.ensures in
    record {
      front = join_three (1 ∷ []) (to_le_bytes w16 (length (record_of r).enlistments)) (to_be_bytes w128 r.id) _ _ _ (c.put.ensures.front 1 (omega arith)) second third;
      rest = c.put-3.ensures.rest 19 (omega arith) ∙ c.put-2.ensures.rest 19 (omega arith) ∙ c.put.ensures.rest 19 (omega arith) ∙ ap (drop 19) (c.fill.ensures.after (λ y h. h));
      long = omega arith;
    }

pub loop-i-preserved : goal.loop-i-preserved
loop-i-preserved c =
    let ps = c.pairs-pairs.result.now in
    let i = c.loop-i.i in
    let n = 19 + 20 * (i + 1) in
    let f = front_bytes (record_of c.args.r.now) in
    let pair = ap (λ (p : RmNo × EnlNo). (f ++ flat_map pair_bytes (map pair_of (take i ps))) ++ pair_bytes (pair_of p)) c.index-pairs-i.is in
    record {
      front = c.put-in-loop-i.ensures.front n (omega arith) ∙ ap (λ (l : List ℕ). take (19 + 20 * i) c.loop-i.into ++ l) c.write_pair-bytes.ensures
          ∙ ap (λ (l : List ℕ). l ++ pair_bytes (pair_of c.index-pairs-i.result)) c.loop-i.invariant.front ∙ pair
          ∙ pair_more f ps i c.index-pairs-i.result c.loop-i-test.true;
      rest = c.put-in-loop-i.ensures.rest n (omega arith) ∙ drop_less (19 + 20 * i) n c.loop-i.into _ (omega arith) c.loop-i.invariant.rest;
      long = omega arith;
    }

pub returns : goal.returns
unfolding record_bytes
returns c =
    let r = c.args.r.now in
    let ps = c.pairs-pairs.result.now in
    let all : map pair_of (take c.loop-i.i ps) ≡ (record_of r).enlistments = ap (map pair_of) (take_all c.loop-i.i ps c.loop-i-test.false ∙ c.pairs-pairs.ensures) in
    let count : length ps ≡ length (record_of r).enlistments =
    ap (λ (qs : List (RmNo × EnlNo)). length qs) c.pairs-pairs.ensures ∙ sym (length-map (take r.count r.durables) pair_of) in
    let f = c.loop-i.invariant.front ∙ ap (λ (es : List (ℕ × ℕ)). front_bytes (record_of r) ++ flat_map pair_bytes es) all in
    whole_of c.loop-i.into _ _ (492 - 20 * length (record_of r).enlistments) _ f c.loop-i.invariant.rest (omega arith)
