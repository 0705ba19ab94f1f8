use Rattle.std.proofs.Common.{◌+◌, ◌-◌, take}
use borrow.Rule.Slice.PartMut.{put_mid}
use Rattle.oletx_frames.proofs.Puts.{IsPut, put}
use Rattle.oletx_frames.proofs.frame_reader.put.Goals as goal

-- what `told` says of what is held and copied
put_is : (c : goal.After-told-all) → IsPut (take c.args.held c.args.bytes.now) c.args.piece.now
    (put_mid c.args.held (c.args.held + c.min-fit.result - c.args.held) c.args.bytes.now c.copy_from_slice.new.self) c.args.held c.told-all.result.0 c.told-all.result.1
put_is c =
    let fit = c.min-fit.result in
    put c.args.bytes.now c.args.piece.now c.copy_from_slice.new.self c.args.held fit (c.args.held + fit - c.args.held) c.told-bytes c.requires.room c.min-fit.ensures c.copy_from_slice.ensures.after
    c.told-all.result.0 c.told-all.result.1 c.requires.begun c.told-all.ensures

pub overflow_sub-result : goal.overflow_sub-result
overflow_sub-result c = (put_is c).behind

pub returns-clause-gives : goal.returns-clause-gives
returns-clause-gives c = (put_is c).gives

pub returns-clause-kept : goal.returns-clause-kept
returns-clause-kept c = (put_is c).kept

pub returns-clause-room : goal.returns-clause-room
returns-clause-room c = (put_is c).room
