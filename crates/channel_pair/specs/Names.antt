-- Which steps of a pair are kept from a channel's stream.
use Rattle.std.specs.Prelude.{ℕ, ◌==◌, Bool, true, false}
use Rattle.sctp_steps.specs.declared.step.Step.{Step}
use Rattle.sctp_steps.specs.declared.step.Step.TheVariants as steps

-- a step names stream s, or may name it as its answer
abbrev pub names : Step → ℕ → Bool
names (steps.OpenStream side id kind) s = id == s
names (steps.Stream side id) s = id == s
names (steps.AcceptStream side) s = true
names (steps.Write side id bytes) s = id == s
names (steps.WriteWithPpi side id bytes kind) s = id == s
names (steps.WriteSctp side id bytes kind) s = id == s
names (steps.WriteChunk side id bytes) s = id == s
names (steps.WriteChunks side id chunks) s = id == s
names (steps.Read side id) s = id == s
names (steps.ReadSctp side id) s = id == s
names (steps.Finish side id) s = id == s
names (steps.Stop side id) s = id == s
names (steps.CloseStream side id) s = id == s
names (steps.SetReliabilityParams side id unordered kind value) s = id == s
names (steps.SetDefaultPayloadType side id kind) s = id == s
names (steps.SetBufferedAmountLowThreshold side id bytes) s = id == s
names (steps.SetBufferedAmountHighThreshold side id bytes) s = id == s
names (steps.StreamStats side id) s = id == s
names (steps.IsReadable side id) s = id == s
names (steps.IsWritable side id) s = id == s
names (steps.StreamIdentifier side id) s = id == s
names (steps.GetDefaultPayloadType side id) s = id == s
names (steps.BufferedAmountLowThreshold side id) s = id == s
names (steps.BufferedAmountHighThreshold side id) s = id == s
names (steps.BufferedAmount side id) s = id == s
names step s = false
