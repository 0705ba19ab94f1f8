use Rattle.std.proofs.Common.{◌≡◌, ◌+◌, take, refl, sym, subst, arith}
use Rattle.oletx_frames.specs.Feeding.{IsAtFault, IsRefused}
use Rattle.oletx_frames.proofs.Faults.{two_bytes}
use Rattle.oletx_frames.proofs.Fronts.{said}
use Rattle.oletx_frames.proofs.Telling.{at_length, at_tag, at_type, at_value}
use Rattle.oletx_frames.proofs.frame_reader.telling.Goals as goal

pub returns-in-BadType-clause-told : goal.returns-in-BadType-clause-told
returns-in-BadType-clause-told c =
    let b = c.args.b.now in
    let arm = c.in-BadType in
    subst (IsAtFault (take 1 b)) (sym arm.is) (at_type b arm.field-0 (subst (IsRefused b) arm.is c.requires.refused)).1

pub returns-in-BadTag-clause-told : goal.returns-in-BadTag-clause-told
returns-in-BadTag-clause-told c =
    let b = c.args.b.now in
    let arm = c.in-BadTag in
    subst (IsAtFault (take 2 b)) (sym arm.is) (at_tag b arm.field-0 (subst (IsRefused b) arm.is c.requires.refused)).1

pub returns-in-BadLength-clause-told : goal.returns-in-BadLength-clause-told
returns-in-BadLength-clause-told c =
    let b = c.args.b.now in
    let arm = c.in-BadLength in
    subst (IsAtFault (take 4 b)) (sym arm.is) (at_length b arm.field-0 (subst (IsRefused b) arm.is c.requires.refused)).1

pub returns-in-BadValue-clause-within : goal.returns-in-BadValue-clause-within
returns-in-BadValue-clause-within c =
    let b = c.args.b.now in
    let arm = c.in-BadValue in
    let long = (at_value b arm.field-0 (4 + said b) (subst (IsRefused b) arm.is c.requires.refused) refl).0 in
    let says : c.from.result ≡ said b = omega (arith, two_bytes b (omega arith)) in
    omega arith

pub returns-in-BadValue-clause-told : goal.returns-in-BadValue-clause-told
returns-in-BadValue-clause-told c =
    let b = c.args.b.now in
    let arm = c.in-BadValue in
    let refused = subst (IsRefused b) arm.is c.requires.refused in
    let long = (at_value b arm.field-0 (4 + said b) refused refl).0 in
    let says : c.from.result ≡ said b = omega (arith, two_bytes b (omega arith)) in
    subst (IsAtFault (take (4 + c.from.result) b)) (sym arm.is) (at_value b arm.field-0 (4 + c.from.result) refused (omega arith)).1
