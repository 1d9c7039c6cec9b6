-- Bytes that a sink tells: one call after another.
use Rattle.std.proofs.Common.{ℕ, List, ◌++◌, None, Some, ap, ◌∙◌}
use Rattle.std.specs.declared.option.Option.{Option}
use Rattle.std.specs.Io.KnownBytes.{Keeps, Appends}
use Rattle.fd_device.specs.declared.sink.Put.{Put}
use Rattle.fd_device.specs.declared.sink.Put.TheVariants.{Done, Failed}
use Rattle.fd_api.specs.Turns.{PutsReply}

pub Keeps-Appends : (old mid new : Option (List ℕ)) (bytes : List ℕ) → Keeps old mid → Appends mid new bytes → Appends old new bytes
Keeps-Appends None mid new bytes kept more = tt
Keeps-Appends (Some xs) None new bytes kept more = absurd kept
Keeps-Appends (Some xs) (Some ys) None bytes kept more = more
Keeps-Appends (Some xs) (Some ys) (Some zs) bytes kept more = more ∙ ap (λ (l : List ℕ). l ++ bytes) kept

pub Keeps-PutsReply : (old mid new : Option (List ℕ)) (bytes : List ℕ) (put : Put) → Keeps old mid → PutsReply mid new bytes put → PutsReply old new bytes put
Keeps-PutsReply old mid new bytes Done kept puts = Keeps-Appends old mid new bytes kept puts
Keeps-PutsReply old mid new bytes Failed kept puts = (puts.0, puts.1, Keeps-Appends old mid new _ kept puts.2)

pub Appends-Keeps : (old mid new : Option (List ℕ)) (bytes : List ℕ) → Appends old mid bytes → Keeps mid new → Appends old new bytes
Appends-Keeps None mid new bytes more kept = tt
Appends-Keeps (Some xs) None new bytes more kept = absurd more
Appends-Keeps (Some xs) (Some ys) None bytes more kept = kept
Appends-Keeps (Some xs) (Some ys) (Some zs) bytes more kept = kept ∙ more
