-- What the manager's calls came to, by numbers.
use Rattle.std.specs.Prelude.{ℕ, Bool, true, false, Option, Some, None, Result, Ok, Err}
use Rattle.dtx_values.specs.TxIds.{number_of}
use Rattle.dtx_values.specs.declared.number.CloneNo.{CloneNo}
use Rattle.dtx_values.specs.declared.number.EnlNo.{EnlNo}
use Rattle.host_manager.specs.declared.error.HostError.{HostError}
use Rattle.host_manager.specs.declared.error.HostError.TheVariants.{Call, Disk, Live, Unasked}
use Rattle.transactions.specs.declared.error.TxError.{TxError}
use Rattle.transactions.specs.declared.handle.CommittableTransaction.{CommittableTransaction}
use Rattle.transactions.specs.declared.handle.DependentTransaction.{DependentTransaction}
use Rattle.resource_managers.specs.declared.enlistment.Enlistment.{Enlistment}

-- the number of an enlistment that was made
abbrev pub number_in : Result Enlistment TxError → Result EnlNo TxError
number_in (Ok e) = Ok e.number
number_in (Err x) = Err x

-- the number of an enlistment that was made, or none
abbrev pub taken_in : Result (Option Enlistment) TxError → Result (Option EnlNo) TxError
taken_in (Ok (Some e)) = Ok (Some e.number)
taken_in (Ok None) = Ok None
taken_in (Err x) = Err x

-- the number of a clone that was made
abbrev pub clone_in : Result DependentTransaction TxError → Result CloneNo TxError
clone_in (Ok d) = Ok d.clone
clone_in (Err x) = Err x

-- the number of a transaction that began; where none did, first the disk has work to do
abbrev pub begun_in : Result (Option CommittableTransaction) TxError → Result ℕ HostError
begun_in (Ok (Some tx)) = Ok (number_of tx.number)
begun_in (Ok None) = Err Disk
begun_in (Err x) = Err (Call x)

-- whether a reply was done, as an error where it wasn't
abbrev pub replied_in : Result Bool TxError → Result (Unit {0}) HostError
replied_in (Ok true) = Ok tt
replied_in (Ok false) = Err Unasked
replied_in (Err x) = Err (Call x)

-- whether a transaction was ended, as an error where it wasn't
abbrev pub ended_in : Result (Unit {0}) CommittableTransaction → Result (Unit {0}) HostError
ended_in (Ok x) = Ok tt
ended_in (Err tx) = Err Live
