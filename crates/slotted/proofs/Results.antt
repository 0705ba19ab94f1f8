-- What holds of a result whatever it is.
use Rattle.std.specs.Result.{IsErrAnd, OnErr, OnOk}
use Rattle.std.proofs.Common.{Result, Ok, Err}

-- what holds holds after Ok
pub on_ok : {T E : Type 0} (r : Result T E) (P : Type 0) → P → OnOk r P
on_ok (Ok x) P holds = holds
on_ok (Err e) P holds = tt

-- and after Err
pub on_err : {T E : Type 0} (r : Result T E) (P : Type 0) → P → OnErr r P
on_err (Ok x) P holds = tt
on_err (Err e) P holds = holds

-- after an error nothing is asked of Ok
pub after_err : {T E : Type 0} (r : Result T E) (Q : E → Type 0) (P : Type 0) → IsErrAnd r Q → OnOk r P
after_err (Ok x) Q P err = absurd err
after_err (Err e) Q P err = tt
