use Rattle.std.proofs.Common.{◌-◌, Result, Ok, Err, OnOk, arith, vec_capacity, vec_len}
use Rattle.std.specs.declared.alloc.AllocError.{AllocError}
use Rattle.oletx_session.specs.Crossing.{most_pieces}
use Rattle.oletx_session.proofs.Rooms.{most_some, room_for}
use Rattle.oletx_session.proofs.session.Session.reserve.Goals as goal

-- what follows holds where the call succeeds
on_success : (r : Result (Unit {0}) AllocError) (P Q : Type 0) → (P → Q) → OnOk r P → OnOk r Q
on_success (Ok x) P Q step h = step h
on_success (Err e) P Q step h = tt

pub returns-clause-room : goal.returns-clause-room
returns-clause-room c =
    let most = most_pieces c.self.inside.size in
    let free = vec_capacity c.reserve-2.new.self - vec_len c.reserve-2.new.self in
    let some = most_some c.self.inside.size c.self.invariant.some in
    on_success c.reserve-2.result _ _ (λ enough. (omega (arith, c.in_ok-reserve.ensures.ok), room_for 64 free most some (omega (arith, enough, c.most_pieces.ensures.value)))) c.reserve-2.ensures.ok
