-- A packet of DATA that a poll gives has one chunk, or is no longer than the greatest packet.
use Rattle.std.proofs.Common.{◌≡◌, refl, sym, subst, ◌⊎◌, ⊎_elim, inl, inr, ℕ, ◌≤◌, arith, true, false, List}
use Rattle.std.proofs.Common.{[]}
use Rattle.std.proofs.Common.{◌∷◌, ◌++◌, length}
use Rattle.std.specs.List.{AllByRecursion}
use Rattle.std.proofs.lemmas.Bool.{cases_Bool, leb-true}
use Rattle.sctp_wire_types.specs.declared.chunk.ChunkPayloadData.{ChunkPayloadData}
use Rattle.sctp_wire_types.specs.declared.packet.CommonHeader.{CommonHeader}
use Rattle.sctp_wire.specs.declared.packet.Packet.{Packet}
use Rattle.sctp_wire.specs.Packets.{spelling, unsummed}
use Rattle.sctp_wire.specs.DataPackets.{DataWritten, closed, data_fits, has_room, joined_by, nothing_written}
use Rattle.sctp_wire.specs.DataPackets.{data_packet}
use Rattle.sctp_wire.specs.DataPackets.{unless_empty, with_all, with_data}
use Rattle.sctp_inbound.specs.Handshake.{header_of}
use Rattle.sctp_streams.specs.Streams.{StreamMap}
use Rattle.sctp_outbound.specs.declared.sender.Sender.{Sender}
use Rattle.sctp_outbound.specs.Abandonment.{abandoned_of, first_dropped, tail_given_up}
use Rattle.sctp_model.proofs.Lists.{all_both, all_join, all_weaker}
use Rattle.sctp_assoc.specs.Gather.{both_of, data_polled, fast_polled, fast_sent, late_abandoned, marks_polled}
use Rattle.sctp_assoc.specs.Gather.{marks_sent, new_sent}
use Rattle.sctp_assoc.specs.Shown.{Shown, uses_forward_tsn}
use Rattle.sctp_sides.specs.Laws.{BundlesFitThePacket, IsShortOrAlone}
use Rattle.sctp_sides.proofs.BundlesFilled.{IsFilled, polled_bundles_are_filled}
use Rattle.sctp_sides.proofs.GivingUpKeeps.{late_kept}

-- the checksum takes the place of zeros
spelled_length : (p : Packet) → length (spelling p) ≡ length (unsummed p)
unfolding spelling
spelled_length p = refl

-- as long as it is being written a packet may be empty
abbrev IsShort : CommonHeader → ℕ → List ChunkPayloadData → Type 0
IsShort header mtu cs = (length cs ≤ 1) ⊎ (length (spelling (data_packet header cs)) ≤ mtu)

filled_short : (header : CommonHeader) (mtu : ℕ) (cs : List ChunkPayloadData) → IsShort header mtu cs × IsFilled cs
    → IsShortOrAlone header mtu cs
filled_short header mtu cs (inl few, some) = inl (omega (arith, few, some))
filled_short header mtu cs (inr short, some) = inr short

-- each packet is so, with this header and this greatest length
record AreShort (header : CommonHeader) (mtu : ℕ) (w : DataWritten) : Type 0 where
  header_is : w.header ≡ header
  mtu_is : w.mtu ≡ mtu
  done : AllByRecursion (IsShort header mtu) w.done
  current : IsShort header mtu w.current

module _ (header : CommonHeader) (mtu : ℕ) where
  unless_short : (cs : List ChunkPayloadData) → IsShort header mtu cs
      → AllByRecursion (IsShort header mtu) (unless_empty cs)
  unless_short [] h = tt
  unless_short (c ∷ cs) h = (h, tt)

  closed_short : (w : DataWritten) → AreShort header mtu w → AreShort header mtu (closed w)
  closed_short w h = record {
    header_is = h.header_is;
    mtu_is = h.mtu_is;
    done = all_join (IsShort header mtu) w.done (unless_empty w.current) h.done (unless_short w.current h.current);
    current = inl (omega arith);
  }

  -- DATA that has room
  joined_short : (w : DataWritten) (c : ChunkPayloadData) → AreShort header mtu w → has_room w c ≡ true
      → AreShort header mtu (joined_by w c)
  joined_short w c h room =
      let within = leb-true _ _ room in
      let length_is = spelled_length (data_packet w.header (w.current ++ c ∷ [])) in
      let least = h.mtu_is in
      let short : length (spelling (data_packet w.header (w.current ++ c ∷ []))) ≤ mtu =
      omega (arith, within, length_is, least) in
      record {
        header_is = h.header_is;
        mtu_is = h.mtu_is;
        done = h.done;
        current = inr (subst (λ z. length (spelling (data_packet z (w.current ++ c ∷ []))) ≤ mtu) h.header_is short);
      }

  -- DATA that begins a packet
  alone_short : (w : DataWritten) (c : ChunkPayloadData) → AreShort header mtu w
      → AreShort header mtu (joined_by (closed w) c)
  alone_short w c h =
      let shut = closed_short w h in
      record {
        header_is = shut.header_is;
        mtu_is = shut.mtu_is;
        done = shut.done;
        current = inl (omega arith);
      }

  data_short : (w : DataWritten) (c : ChunkPayloadData) → AreShort header mtu w → AreShort header mtu (with_data w c)
  data_short w c h = ⊎_elim
      (λ (fits : data_fits c ≡ true). ⊎_elim
      (λ (room : has_room w c ≡ true). rw (fits, room) (joined_short w c h room))
      (λ (full : has_room w c ≡ false). rw (fits, full) (alone_short w c h))
      (cases_Bool (has_room w c)))
      (λ (long : data_fits c ≡ false). rw long h)
      (cases_Bool (data_fits c))

  all_short : (w : DataWritten) (cs : List ChunkPayloadData) → AreShort header mtu w
      → AreShort header mtu (with_all w cs)
  all_short w [] h = h
  all_short w (c ∷ cs) h = all_short (with_data w c) cs (data_short w c h)

  closed_after : (w : DataWritten) (cs : List ChunkPayloadData) → AreShort header mtu w
      → AreShort header mtu (closed (with_all w cs))
  closed_after w cs h = closed_short (with_all w cs) (all_short w cs h)

  nothing_short : AreShort header mtu (nothing_written header mtu)
  nothing_short = record { header_is = refl; mtu_is = refl; done = tt; current = inl (omega arith) }

-- what is given up leaves the greatest length of a packet
abbrev HasMtu : ℕ → Sender × StreamMap → Type 0
HasMtu n x = x.0.mtu ≡ n

abandoned_mtu : (n t : ℕ) (x : Sender × StreamMap) → HasMtu n x → HasMtu n (abandoned_of t x)
unfolding abandoned_of
abandoned_mtu n t (s, m) e = e

tail_mtu : (n now : ℕ) (x : Sender × StreamMap) → HasMtu n x → HasMtu n (tail_given_up now x)
unfolding tail_given_up
tail_mtu n now (s, m) e = e

dropped_mtu : (n now : ℕ) (x : Sender × StreamMap) → HasMtu n x → HasMtu n (first_dropped now x)
unfolding first_dropped
dropped_mtu n now (s, m) e = e

late_mtu : (a : Shown) (now : ℕ) → (late_abandoned a now).sender.mtu ≡ a.sender.mtu
late_mtu a now =
    let mtu = a.sender.mtu in
    late_kept (HasMtu mtu) now (uses_forward_tsn a) (λ used. record {
      started = λ x e. e;
      abandoned = abandoned_mtu mtu;
      tail = tail_mtu mtu now;
      dropped = dropped_mtu mtu now;
    }) (both_of a) refl

pub bundles_fit_the_packet : BundlesFitThePacket
unfolding data_polled
bundles_fit_the_packet a now =
    let header = header_of a.handshake in
    let mtu = a.sender.mtu in
    let none = nothing_written header (late_abandoned a now).sender.mtu in
    let marked = closed (with_all none (marks_sent (late_abandoned a now))) in
    let missing = closed (with_all marked (fast_sent (marks_polled a now))) in
    let nothing : AreShort header mtu none =
    subst (λ (n : ℕ). AreShort header mtu (nothing_written header n)) (sym (late_mtu a now)) (nothing_short header mtu)
    in
    let short =
    closed_after header mtu missing (new_sent (fast_polled a now) now)
    (closed_after header mtu marked (fast_sent (marks_polled a now))
    (closed_after header mtu none (marks_sent (late_abandoned a now)) nothing)) in
    let bundles = (closed (with_all missing (new_sent (fast_polled a now) now))).done in
    all_weaker (λ (cs : List ChunkPayloadData). IsShort header mtu cs × IsFilled cs) (IsShortOrAlone header mtu) bundles
    (λ cs h. filled_short header mtu cs h)
    (all_both (IsShort header mtu) IsFilled bundles short.done (polled_bundles_are_filled a now))
