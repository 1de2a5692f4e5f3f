-- A datagram by which an association was lost spells a packet, and the walk over its chunks finds the end.
use Rattle.std.proofs.Common.{◌≡◌, ◌≢◌, refl, sym, ap, ◌∙◌, subst, ℕ, Bool, true, false, cond, List, Option, Some, None}
use Rattle.std.proofs.Common.{Result, Ok, Err, IfOk, IfSome, OnOk, is_ok, drop, length, ◌<◌, ◌==◌, not, ◌&&◌, ⊎_elim}
use Rattle.std.proofs.Common.{inl, inr}
use Rattle.std.proofs.lemmas.Bool.{lt-ltb}
use Rattle.std.specs.Prelude.{◌⊎◌, IsErrOf, IsSome, OnErr, nat_lt}
use Rattle.sctp_crc.specs.Crc.{sum_of_packet}
use Rattle.sctp_wire_types.specs.declared.chunk.Chunk.{Chunk}
use Rattle.sctp_wire_types.specs.declared.error.Error.{Error}
use Rattle.sctp_wire_types.specs.declared.error.Error.TheVariants as errors
use Rattle.sctp_wire_types.specs.declared.error.Fault.{Fault}
use Rattle.sctp_wire_types.specs.declared.error.Fault.TheVariants as faults
use Rattle.sctp_wire_types.specs.declared.packet.CommonHeader.{CommonHeader}
use Rattle.sctp_wire.specs.declared.packet.Packet.{Packet}
use Rattle.sctp_wire.specs.declared.partial.PartialDecode.{PartialDecode}
use Rattle.sctp_wire.specs.Chunks.{chunks_at}
use Rattle.sctp_wire.specs.Packets.{checked, finished, header_at, partial_at, sum_at}
use Rattle.sctp_wire.specs.Results.{◌>>=◌}
use Rattle.sctp_assoc.specs.Chunks.{after_packet}
use Rattle.sctp_assoc.specs.Inbound.{taken_packet}
use Rattle.sctp_assoc.specs.Shown.{Shown}
use Rattle.sctp_driver.specs.declared.tags.DatagramAnswer.{DatagramAnswer}
use Rattle.sctp_driver.specs.declared.tags.DatagramAnswer.TheVariants as fates
use Rattle.sctp_driver.specs.Driving.{Driving, RunsOutOfMemory}
use Rattle.sctp_driver.specs.Late.{with_datagram}
use Rattle.sctp_driver.specs.Tags.{answer_to, packet_in}
use Rattle.sctp_watch.specs.declared.ends.End.{End}
use Rattle.sctp_watch.specs.declared.ends.End.TheVariants as ends
use Rattle.sctp_watch.specs.Ends.{end_among, ended_by}
use Rattle.sctp_watch.specs.Watching.{brought, end_after}

-- ---- the walk over a datagram

-- the end that the packet brings, if there is one
abbrev Ends : End → Option Packet → Type 0
Ends end packet = IfSome packet (λ p. end ≡ ended_by (Some p))

if_checked : (ok : Bool) (packet : Packet) (end : End) → end ≡ ended_by (Some packet)
    → Ends end (cond ok (Some packet) None)
if_checked true packet end is = is
if_checked false packet end is = tt

by_chunks : (header : CommonHeader) (read : Result (List Chunk) Fault) (end : End)
    → IfOk read (λ cs. end ≡ end_among ends.Fault cs)
    → Ends end (taken_packet (read >>= λ chunks. Ok (record { common_header = header; chunks = chunks })))
by_chunks header (Ok cs) end is =
    let packet : Packet = record { common_header = header; chunks = cs } in
    if_checked (is_ok (checked packet)) packet end is
by_chunks header (Err fault) end is = tt

by_partial : (short wrong : Bool) (shortness wrongness : Fault) (partial : PartialDecode) (end : End)
    → Ends end (taken_packet (finished partial))
    → Ends end (taken_packet (cond short (Err shortness) (cond wrong (Err wrongness) (Ok partial)) >>= finished))
by_partial true wrong shortness wrongness partial end is = tt
by_partial false true shortness wrongness partial end is = tt
by_partial false false shortness wrongness partial end is = is

by_length : (short : Bool) (shortness : Fault) (read : Result PartialDecode Fault) (end : End) → short ≡ true
    → Ends end (taken_packet (cond short (Err shortness) read >>= finished))
by_length true shortness read end is = tt
by_length false shortness read end is = absurd cc

pub whole_read : (bytes : List ℕ) (end : End) → IfOk (chunks_at (drop 12 bytes)) (λ cs. end ≡ end_among ends.Fault cs)
    → Ends end (packet_in bytes)
unfolding partial_at finished
whole_read bytes end is =
    by_partial (nat_lt (length bytes) 12) (not (sum_at bytes == sum_of_packet bytes)) faults.Short faults.Checksum
    (record { common_header = header_at bytes; remaining = drop 12 bytes }) end
    (by_chunks (header_at bytes) (chunks_at (drop 12 bytes)) end is)

pub short_read : (bytes : List ℕ) (end : End) → length bytes < 12 → Ends end (packet_in bytes)
unfolding partial_at
short_read bytes end short =
    by_length (nat_lt (length bytes) 12) faults.Short _ end (lt-ltb _ _ short)

-- ---- the datagram by which an association was lost

-- one association is lost, and another one not
differ : (a b : Shown) → a.lost ≡ false → b.lost ≡ true → b ≡ a → ⊥
differ a b alive lost same =
    let e : false ≡ true = sym alive ∙ ap (λ (x : Shown). x.lost) (sym same) ∙ lost in
    absurd cc

no_packet : (lost : Bool) (a : Shown) → cond lost a a ≡ a
no_packet true a = refl
no_packet false a = refl

module _ (d e : Driving) (now : ℕ) (alive : d.association.lost ≡ false) (lost : e.association.lost ≡ true) where
  same_not : e ≡ d → ⊥
  same_not same = differ d.association e.association alive lost (ap (λ (x : Driving). x.association) same)

  memory_not : RunsOutOfMemory d e → ⊥
  memory_not fails =
      let kept = ap (λ x. x.lost) fails.1.answers in
      let z : false ≡ true = sym alive ∙ sym kept ∙ lost in
      absurd cc

  by_packet : (packet : Option Packet) → e.association ≡ after_packet d.association packet now → IsSome packet
  by_packet (Some packet) is = refl
  by_packet None is =
      absurd (differ d.association e.association alive lost (is ∙ no_packet d.association.lost d.association))

  by_fate : (fate : DatagramAnswer) (packet : Option Packet)
      → (fate ≡ fates.Taken → e.association ≡ after_packet d.association packet now)
      → (fate ≢ fates.Taken → e ≡ d) → IsSome packet
  by_fate fates.Taken packet taken left = by_packet packet (taken refl)
  by_fate fates.NoPacket packet taken left = absurd (same_not (left (λ is. absurd cc)))
  by_fate fates.OtherTag packet taken left = absurd (same_not (left (λ is. absurd cc)))
  by_fate fates.RepeatedInit packet taken left = absurd (same_not (left (λ is. absurd cc)))
  by_fate fates.OtherInit packet taken left = absurd (same_not (left (λ is. absurd cc)))

  by_error : (packet : Option Packet) (answer : Result DatagramAnswer Error)
      → (IsErrOf answer errors.ErrAssociationFailed → e ≡ d)
      → (IsErrOf answer errors.ErrNoMemory → (e ≡ d) ⊎ RunsOutOfMemory d e)
      → (answer ≡ Err errors.ErrAssociationFailed) ⊎ (answer ≡ Err errors.ErrNoMemory) → IsSome packet
  by_error packet answer refused memory (inl is) = absurd (same_not (refused is))
  by_error packet answer refused memory (inr is) = absurd (⊎_elim same_not memory_not (memory is))

  pub packet_came : (datagram : List ℕ) (answer : Result DatagramAnswer Error)
      → OnOk answer (answer_to d datagram ≡ fates.Taken → e ≡ with_datagram d datagram now)
      → (answer_to d datagram ≢ fates.Taken → e ≡ d)
      → (IsErrOf answer errors.ErrAssociationFailed → e ≡ d)
      → (IsErrOf answer errors.ErrNoMemory → (e ≡ d) ⊎ RunsOutOfMemory d e)
      → OnErr answer ((answer ≡ Err errors.ErrAssociationFailed) ⊎ (answer ≡ Err errors.ErrNoMemory))
      → IsSome (packet_in datagram)
  packet_came datagram (Ok fate) taken left refused memory only =
      by_fate (answer_to d datagram) (packet_in datagram) (λ t. ap (λ (x : Driving). x.association) (taken t)) left
  packet_came datagram (Err error) taken left refused memory only =
      by_error (packet_in datagram) (Err error) refused memory only

-- the end that the packet brings, if there is one, unless the receive buffer was exhausted
abbrev Brings : Bool → End → Option Packet → Type 0
Brings exhausted end packet = IfSome packet (λ p. end ≡ brought exhausted (ended_by (Some p)))

pub exhaustion_brought : (packet : Option Packet) (exhausted : Bool) → exhausted ≡ true
    → Brings exhausted ends.BufferExhausted packet
exhaustion_brought (Some packet) exhausted is = rw is refl
exhaustion_brought None exhausted is = tt

pub packet_brought : (packet : Option Packet) (exhausted : Bool) (end : End) → exhausted ≡ false → Ends end packet
    → Brings exhausted end packet
packet_brought (Some packet) exhausted end not_so is = rw not_so is
packet_brought None exhausted end not_so is = tt

pub same_end : (packet : Option Packet) (exhausted : Bool) (end : End) → IsSome packet → Brings exhausted end packet
    → end ≡ brought exhausted (ended_by packet)
same_end (Some packet) exhausted end some is = is
same_end None exhausted end some is = absurd cc

-- ---- what a watch knows behind the call

module _ (d e : Driving) (end found : End) (known : Option End) where
  pub told : d.association.lost ≡ false → e.association.lost ≡ true → found ≡ end
      → Some found ≡ end_after d e end known
  told alive lost same = rw (alive, lost) (ap Some same)

  pub untold : (not d.association.lost && e.association.lost) ≡ false → known ≡ end_after d e end known
  untold none = rw none refl
