-- Results, by their case.
use Rattle.std.specs.Prelude.{Result, Ok, Err, IfOk, IfErr, OnOk, OnErr}

pub if_ok : {T E : Type 0} (r : Result T E) (P Q : T → Type 0) → IfOk r P → ((x : T) → P x → Q x) → IfOk r Q
if_ok (Ok x) P Q is goes = goes x is
if_ok (Err e) P Q is goes = tt

pub if_err : {T E : Type 0} (r : Result T E) (P Q : E → Type 0) → IfErr r P → ((x : E) → P x → Q x) → IfErr r Q
if_err (Ok x) P Q is goes = tt
if_err (Err e) P Q is goes = goes e is

pub on_ok : {T E : Type 0} (r : Result T E) (P Q : Type 0) → OnOk r P → (P → Q) → OnOk r Q
on_ok (Ok x) P Q is goes = goes is
on_ok (Err e) P Q is goes = tt

-- What holds of a result, and of each successful one.
pub both_ok : {T E : Type 0} (r : Result T E) (P : T → Type 0) (Q S : Type 0) → IfOk r P → OnOk r Q →
    ((x : T) → P x → Q → S) → OnOk r S
both_ok (Ok x) P Q S is on goes = goes x is on
both_ok (Err e) P Q S is on goes = tt

pub on_err : {T E : Type 0} (r : Result T E) (P : E → Type 0) (S : Type 0) → IfErr r P → ((e : E) → P e → S) → OnErr r S
on_err (Ok x) P S is goes = tt
on_err (Err e) P S is goes = goes e is
