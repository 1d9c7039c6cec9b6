-- A spelling that is all of the bytes.
use Rattle.std.proofs.Common.{◌≡◌, ◌≢◌, ℕ, List, [], ◌++◌, length, Result, Ok, Err, refl, ap, arith}
use Rattle.std.specs.List.{slice_range}
use Rattle.std.proofs.lemmas.Grind.{common_steps}
use Rattle.fd_thrift.specs.declared.fault.ThriftFault.{ThriftFault}
use Rattle.fd_thrift.specs.declared.fault.ThriftFault.TheVariants.{Cut, BadType, BadSize, Deep, NoMemory}
use Rattle.fd_footer.specs.declared.fault.FooterFault.{FooterFault}
use Rattle.fd_thrift.specs.Values.{Value}
use Rattle.fd_thrift.specs.Format.{Spells}
use Rattle.fd_thrift.specs.Reader.{Begins, Fails}

all_of : (bytes : List ℕ) → slice_range bytes 0 (length bytes) ≡ bytes ++ []
all_of bytes = grind (arith, common_steps)

whole_begins : (bytes : List ℕ) (v : Value) → Spells bytes v → Begins 0 (slice_range bytes 0 (length bytes)) v (length bytes)
whole_begins bytes v spelled = (bytes, [], all_of bytes, spelled, omega arith)

tree_in : Value → Result (Value × ℕ) ThriftFault → Value
tree_in v (Ok x) = x.0
tree_in v (Err e) = v

end_in : Result (Value × ℕ) ThriftFault → ℕ
end_in (Ok x) = x.1
end_in (Err e) = 0

-- the one tree that the bytes spell, and its end
pub one_tree : (bytes : List ℕ) (t : Value) (end : ℕ)
    → ((v : Value) (after : ℕ) → Begins 0 (slice_range bytes 0 (length bytes)) v after → ◌≡◌ {A = Result (Value × ℕ) ThriftFault} (Ok (v, after)) (Ok (t, end)))
    → (v : Value) → Spells bytes v → (v ≡ t) × (length bytes ≡ end)
unfolding tree_in end_in
one_tree bytes t end only v spelled =
    let same = only v (length bytes) (whole_begins bytes v spelled) in
    (ap (tree_in v) same, ap end_in same)

apart : (x : Value × ℕ) (e : ThriftFault) → e ≢ NoMemory → Fails e (Ok x) → ⊥
apart x Cut other failed = cc
apart x BadType other failed = cc
apart x BadSize other failed = cc
apart x Deep other failed = cc
apart x NoMemory other failed = other refl

pub no_tree : (bytes : List ℕ) (e : ThriftFault) → e ≢ NoMemory
    → ((v : Value) (after : ℕ) → Begins 0 (slice_range bytes 0 (length bytes)) v after → Fails {Y = Value × ℕ} e (Ok (v, after)))
    → (v : Value) → Spells bytes v → ⊥
no_tree bytes e other only v spelled =
    apart (v, length bytes) e other (only v (length bytes) (whole_begins bytes v spelled))

fault_in : {A : Type 0} → FooterFault → Result A FooterFault → FooterFault
fault_in f (Ok x) = f
fault_in f (Err e) = e

pub err_is : {A : Type 0} {e f : FooterFault} → ◌≡◌ {A = Result A FooterFault} (Err e) (Err f) → e ≡ f
unfolding fault_in
err_is {f = f} same = ap (fault_in f) same
