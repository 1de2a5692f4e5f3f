-- Packets of DATA that are being written.
use Rattle.std.proofs.Common.{◌≡◌, ℕ, suc, ◌==◌, ◌+◌, ◌*◌, ◌/◌, Bool, true, ◌&&◌, List, [], ◌∷◌, ◌++◌, length, map, max}
use Rattle.std.proofs.Common.{drop}
use Rattle.std.proofs.Common.{refl, sym, ap, subst, ◌∙◌, arith}
use Rattle.std.specs.List.{list_all, flat_map, AllByRecursion}
use Rattle.std.proofs.lemmas.Bool.{and_parts, cond-false, false_from_ne_true}
use Rattle.std.proofs.lemmas.Bool.Decides.{nat_tests}
use Rattle.std.proofs.lemmas.List.{append_assoc, append-nil, length-append}
use Rattle.sctp_wire_types.specs.declared.chunk.Chunk.{Chunk}
use Rattle.sctp_wire_types.specs.declared.chunk.Chunk.TheVariants as chunks
use Rattle.sctp_wire_types.specs.declared.chunk.ChunkPayloadData.{ChunkPayloadData}
use Rattle.sctp_wire_types.specs.declared.packet.CommonHeader.{CommonHeader}
use Rattle.sctp_wire.specs.Chunks.{IsChunk, chunk_bytes, chunk_fits, chunk_is_plain}
use Rattle.sctp_wire.specs.Packets.{IsHeader, spelling, unsummed}
use Rattle.sctp_wire.proofs.PacketsAgain.{packet_again}
use Rattle.sctp_wire.specs.PayloadData.{IsPayloadData}
use Rattle.sctp_wire.specs.DataPackets.{IsBeingWritten, being_written, data_among, data_fits, data_in, data_read}
use Rattle.sctp_wire.specs.DataPackets.{IsDone, IsReadBack, begun, datagrams_of, data_packet, started, summed}
use Rattle.sctp_wire.specs.DataPackets.{unless_empty}
use Rattle.sctp_wire.specs.Chunks.{chunk_frame, chunks_at}
use Rattle.sctp_wire.specs.Frames.{pad_len, zeros}
use Rattle.sctp_wire.proofs.FramesAgain.{length-zeros}
use Rattle.sctp_wire.proofs.ChunksAgain.{chunks_again}

abbrev as_chunks : List ChunkPayloadData → List Chunk
as_chunks cs = map (λ (c : ChunkPayloadData). chunks.Data c) cs

all_among : (cs : List ChunkPayloadData) → data_among (as_chunks cs) ≡ cs
all_among [] = refl
all_among (c ∷ cs) = ap (λ (zs : List ChunkPayloadData). c ∷ zs) (all_among cs)

all_ranges : (cs : List ChunkPayloadData) → AllByRecursion IsPayloadData cs → AllByRecursion IsChunk (as_chunks cs)
all_ranges [] h = tt
all_ranges (c ∷ cs) (h, hs) = (h, all_ranges cs hs)

all_fit : (cs : List ChunkPayloadData) → list_all data_fits cs ≡ list_all chunk_fits (as_chunks cs)
all_fit [] = refl
all_fit (c ∷ cs) = ap (λ (b : Bool). data_fits c && b) (all_fit cs)

all_plain : (cs : List ChunkPayloadData) → list_all chunk_is_plain (as_chunks cs) ≡ true
all_plain [] = refl
all_plain (c ∷ cs) = all_plain cs

-- what is being written is read as what it is
pub read_back : (header : CommonHeader) (cs : List ChunkPayloadData) → AllByRecursion IsPayloadData cs
    → list_all data_fits cs ≡ true → data_in (being_written header cs) ≡ cs
read_back header [] ranges fit = ap data_read (chunks_again [] tt refl refl)
read_back header (c ∷ cs) ranges fit =
    ap data_read (chunks_again (as_chunks (c ∷ cs)) (all_ranges (c ∷ cs) ranges) (sym (all_fit (c ∷ cs)) ∙ fit)
    (all_plain (c ∷ cs)))
    ∙ all_among (c ∷ cs)

ranges_more : (cs : List ChunkPayloadData) (c : ChunkPayloadData) → AllByRecursion IsPayloadData cs → IsPayloadData c
    → AllByRecursion IsPayloadData (cs ++ c ∷ [])
ranges_more [] c h one = (one, tt)
ranges_more (x ∷ xs) c (h, hs) one = (h, ranges_more xs c hs one)

fit_more : (cs : List ChunkPayloadData) (c : ChunkPayloadData) → list_all data_fits cs ≡ true → data_fits c ≡ true
    → list_all data_fits (cs ++ c ∷ []) ≡ true
fit_more [] c h one = rw one refl
fit_more (x ∷ xs) c h one =
    let parts = and_parts (data_fits x) (list_all data_fits xs) h in
    rw (parts.0, fit_more xs c parts.1 one) refl

bytes_more : (cs : List ChunkPayloadData) (c : ChunkPayloadData)
    → flat_map chunk_bytes (as_chunks (cs ++ c ∷ []))
    ≡ flat_map chunk_bytes (as_chunks cs) ++ chunk_bytes (chunks.Data c)
bytes_more [] c = append-nil (chunk_bytes (chunks.Data c))
bytes_more (x ∷ xs) c =
    ap (λ (z : List ℕ). chunk_bytes (chunks.Data x) ++ z) (bytes_more xs c)
    ∙ sym (append_assoc (chunk_bytes (chunks.Data x)) (flat_map chunk_bytes (as_chunks xs))
    (chunk_bytes (chunks.Data c)))

-- The common header, with or without DATA behind it

started_bytes : (header : CommonHeader) (cs : List ChunkPayloadData) (c : ChunkPayloadData)
    → unsummed (data_packet header (cs ++ c ∷ []))
    ≡ (started header ++ flat_map chunk_bytes (as_chunks cs)) ++ chunk_bytes (chunks.Data c)
started_bytes header cs c =
    ap (λ (z : List ℕ). started header ++ z) (bytes_more cs c)
    ∙ sym (append_assoc (started header) (flat_map chunk_bytes (as_chunks cs)) (chunk_bytes (chunks.Data c)))

some_behind : (header : CommonHeader) (cs : List ChunkPayloadData) (c : ChunkPayloadData)
    → being_written header (cs ++ c ∷ []) ≡ unsummed (data_packet header (cs ++ c ∷ []))
some_behind header [] c = refl
some_behind header (x ∷ xs) c = refl

-- Nothing is being written yet.

pub nothing_in : data_in [] ≡ []
nothing_in = ap data_read (chunks_again [] tt refl refl)

pub nothing_yet : (header : CommonHeader) (bytes : List ℕ) → bytes ≡ [] → IsBeingWritten header bytes
nothing_yet header bytes e =
    let none : data_in bytes ≡ [] = ap data_in e ∙ nothing_in in
    record {
      bytes_are = e ∙ ap (being_written header) (sym none);
      ports = λ some. absurd (some e);
      ranges = subst (AllByRecursion IsPayloadData) (sym none) tt;
      fit = ap (list_all data_fits) none;
    }

-- A packet is done.

behind_header : (header : CommonHeader) (cs : List ChunkPayloadData)
    → drop 12 (spelling (data_packet header cs)) ≡ flat_map chunk_bytes (as_chunks cs)
unfolding spelling
behind_header header cs = refl

pub read_done : (header : CommonHeader) (cs : List ChunkPayloadData) → AllByRecursion IsPayloadData cs
    → list_all data_fits cs ≡ true → data_in (spelling (data_packet header cs)) ≡ cs
read_done header cs ranges fit =
    ap (λ (z : List ℕ). data_read (chunks_at z)) (behind_header header cs)
    ∙ ap data_read (chunks_again (as_chunks cs) (all_ranges cs ranges) (sym (all_fit cs) ∙ fit) (all_plain cs))
    ∙ all_among cs

summed_is : (header : CommonHeader) (cs : List ChunkPayloadData)
    → summed (unsummed (data_packet header cs)) ≡ spelling (data_packet header cs)
unfolding spelling
summed_is header cs = refl

-- of what was being written, where it carries something
pub done_is : (header : CommonHeader) (bytes datagram : List ℕ) (c : ChunkPayloadData) (cs : List ChunkPayloadData)
    → data_in bytes ≡ c ∷ cs → IsBeingWritten header bytes → (bytes ≡ [] → ⊥) → datagram ≡ summed bytes
    → (data_in datagram ≡ c ∷ cs) × IsDone header datagram
done_is header bytes datagram c cs e h some put =
    let ranges = subst (AllByRecursion IsPayloadData) e h.ranges in
    let fit : list_all data_fits (c ∷ cs) ≡ true = ap (list_all data_fits) (sym e) ∙ h.fit in
    let spelled : datagram ≡ spelling (data_packet header (c ∷ cs)) =
    put ∙ ap summed (h.bytes_are ∙ ap (being_written header) e) ∙ summed_is header (c ∷ cs) in
    let read : data_in datagram ≡ c ∷ cs = ap data_in spelled ∙ read_done header (c ∷ cs) ranges fit in (
      read,
      record {
        ports = h.ports some;
        datagram_is = spelled ∙ ap (λ (z : List ChunkPayloadData). spelling (data_packet header z)) (sym read);
        ranges = subst (AllByRecursion IsPayloadData) (sym read) ranges;
        fit = ap (list_all data_fits) read ∙ fit;
      },
    )

-- where something was written, the packet carries something
pub carries_some : (header : CommonHeader) (bytes : List ℕ) (cs : List ChunkPayloadData) → data_in bytes ≡ cs
    → IsBeingWritten header bytes → (bytes ≡ [] → ⊥)
    → (c : ChunkPayloadData) × (rest : List ChunkPayloadData) × (data_in bytes ≡ c ∷ rest)
carries_some header bytes [] e h some = absurd (some (h.bytes_are ∙ ap (being_written header) e))
carries_some header bytes (c ∷ cs) e h some = (c, cs, e)

pub all_more : {X : Type 0} (P : X → Type 0) (xs : List X) (x : X) → AllByRecursion P xs → P x
    → AllByRecursion P (xs ++ x ∷ [])
all_more P [] x h one = (one, tt)
all_more P (y ∷ ys) x (h, hs) one = (h, all_more P ys x hs one)

pub mapped_more : (xs : List (List ℕ)) (x : List ℕ) → map data_in (xs ++ x ∷ []) ≡ map data_in xs ++ data_in x ∷ []
mapped_more [] x = refl
mapped_more (y ∷ ys) x = ap (λ (z : List (List ChunkPayloadData)). data_in y ∷ z) (mapped_more ys x)

-- The length of a packet with DATA behind it

chunk_length : (c : ChunkPayloadData)
    → length (chunk_bytes (chunks.Data c)) ≡ (length c.user_data + 19) / 4 * 4
chunk_length c =
    let pad = pad_len (length (chunk_frame (chunks.Data c)).value) in
    let tail = length-append c.user_data (zeros pad) in
    let filled = length-zeros pad in
    omega (arith, tail, filled)

pub packet_length : (header : CommonHeader) (bytes : List ℕ) (cs : List ChunkPayloadData) (c : ChunkPayloadData)
    → data_in bytes ≡ cs → IsBeingWritten header bytes
    → length (unsummed (data_packet header (cs ++ c ∷ []))) ≡ max (length bytes) 12 + (length c.user_data + 19) / 4 * 4
packet_length header bytes [] c e h =
    let none : length bytes ≡ 0 = ap length (h.bytes_are ∙ ap (being_written header) e) in
    let one = chunk_length c in
    let all : length (unsummed (data_packet header (c ∷ []))) ≡ 12 + length (chunk_bytes (chunks.Data c)) =
    ap length (started_bytes header [] c) ∙ length-append (started header ++ []) (chunk_bytes (chunks.Data c)) in
    omega (arith, none, one, all)
packet_length header bytes (x ∷ xs) c e h =
    let some : length bytes ≡ length (unsummed (data_packet header (x ∷ xs))) =
    ap length (h.bytes_are ∙ ap (being_written header) e) in
    let front : length (unsummed (data_packet header (x ∷ xs)))
    ≡ 12 + length (flat_map chunk_bytes (as_chunks (x ∷ xs))) =
    length-append (started header) (flat_map chunk_bytes (as_chunks (x ∷ xs))) in
    let one = chunk_length c in
    let all : length (unsummed (data_packet header ((x ∷ xs) ++ c ∷ [])))
    ≡ length (unsummed (data_packet header (x ∷ xs))) + length (chunk_bytes (chunks.Data c)) =
    ap length (started_bytes header (x ∷ xs) c)
    ∙ length-append (started header ++ flat_map chunk_bytes (as_chunks (x ∷ xs))) (chunk_bytes (chunks.Data c)) in
    omega (arith, some, front, one, all)

-- the packet that was being written is done, behind those that were
pub closes : (header : CommonHeader) (bytes datagram : List ℕ) (done : List (List ℕ)) → IsBeingWritten header bytes
    → (bytes ≡ [] → ⊥) → datagram ≡ summed bytes → AllByRecursion (IsDone header) done
    → AllByRecursion (IsDone header) (done ++ datagram ∷ [])
    × (map data_in (done ++ datagram ∷ []) ≡ map data_in done ++ unless_empty (data_in bytes))
closes header bytes datagram done h some put all =
    let carried = carries_some header bytes (data_in bytes) refl h some in
    let one = done_is header bytes datagram carried.0 carried.1 carried.2 h some put in (
      all_more (IsDone header) done datagram all one.1,
      mapped_more done datagram
          ∙ ap (λ (z : List ChunkPayloadData). map data_in done ++ z ∷ []) one.0
          ∙ ap (λ (z : List ChunkPayloadData). map data_in done ++ unless_empty z) (sym carried.2),
    )

pub are_datagrams : (header : CommonHeader) (done : List (List ℕ)) → AllByRecursion (IsDone header) done
    → done ≡ datagrams_of header (map data_in done)
are_datagrams header [] all = refl
are_datagrams header (d ∷ ds) (one, all) =
    ap (λ (z : List (List ℕ)). d ∷ z) (are_datagrams header ds all)
    ∙ ap (λ (z : List ℕ). z ∷ datagrams_of header (map data_in ds)) one.datagram_is

read_back_one : (header : CommonHeader) (cs : List ChunkPayloadData) → IsHeader header
    → AllByRecursion IsPayloadData cs → list_all data_fits cs ≡ true → IsReadBack header cs
read_back_one header cs ports ranges fit =
    packet_again (data_packet header cs) (ports, all_ranges cs ranges) (sym (all_fit cs) ∙ fit) (all_plain cs)

pub are_read_back : (header : CommonHeader) (done : List (List ℕ))
    → AllByRecursion (IsDone header) done → AllByRecursion (IsReadBack header) (map data_in done)
are_read_back header [] all = tt
are_read_back header (d ∷ ds) (one, all) =
    (read_back_one header (data_in d) one.ports one.ranges one.fit, are_read_back header ds all)

no_zero : (n : ℕ) → (suc n == 0) ≡ true → ⊥
no_zero n e = grind (arith, nat_tests, e)

begun_already : (header : CommonHeader) (byte : ℕ) (bytes : List ℕ) → begun header (byte ∷ bytes) ≡ byte ∷ bytes
begun_already header byte bytes =
    cond-false (length (byte ∷ bytes) == 0) (started header) (byte ∷ bytes)
    (false_from_ne_true (length (byte ∷ bytes) == 0) (no_zero (length bytes)))

begun_before : (header : CommonHeader) (cs : List ChunkPayloadData)
    → begun header (unsummed (data_packet header cs)) ≡ unsummed (data_packet header cs)
begun_before header cs = begun_already header _ _

some_bytes : (header : CommonHeader) (cs : List ChunkPayloadData) → unsummed (data_packet header cs) ≡ [] → ⊥
some_bytes header cs none = cc

module _ (header : CommonHeader) (c : ChunkPayloadData) (range : IsPayloadData c) (fits : data_fits c ≡ true) where
  -- what is being written, with DATA behind it
  more_written : (cs : List ChunkPayloadData) (bytes : List ℕ) → IsHeader header → AllByRecursion IsPayloadData cs
      → list_all data_fits cs ≡ true
      → bytes ≡ (started header ++ flat_map chunk_bytes (as_chunks cs)) ++ chunk_bytes (chunks.Data c)
      → (data_in bytes ≡ cs ++ c ∷ []) × IsBeingWritten header bytes
  more_written cs bytes ports ranges fit are =
      let ds = cs ++ c ∷ [] in
      let same : bytes ≡ being_written header (cs ++ c ∷ []) =
      are ∙ sym (started_bytes header cs c) ∙ sym (some_behind header cs c) in
      let all = ranges_more cs c ranges range in
      let both = fit_more cs c fit fits in
      let read : data_in bytes ≡ cs ++ c ∷ [] = ap data_in same ∙ read_back header ds all both in (
        read,
        record {
          bytes_are = same ∙ ap (being_written header) (sym read);
          ports = λ some. ports;
          ranges = subst (AllByRecursion IsPayloadData) (sym read) all;
          fit = ap (list_all data_fits) read ∙ both;
        },
      )

  -- DATA behind what is being written, or behind the common header
  behind : (bytes new : List ℕ) (ds : List ChunkPayloadData) → data_in bytes ≡ ds → IsBeingWritten header bytes
      → (bytes ≡ [] → IsHeader header) → new ≡ begun header bytes ++ chunk_bytes (chunks.Data c)
      → (data_in new ≡ ds ++ c ∷ []) × IsBeingWritten header new
  behind bytes new [] e h ports are =
      let none : bytes ≡ [] = h.bytes_are ∙ ap (being_written header) e in
      more_written [] new (ports none) tt refl
      (are ∙ ap (λ (z : List ℕ). begun header z ++ chunk_bytes (chunks.Data c)) none
      ∙ ap (λ (z : List ℕ). z ++ chunk_bytes (chunks.Data c)) (sym (append-nil (started header))))
  behind bytes new (x ∷ xs) e h ports are =
      let same : bytes ≡ unsummed (data_packet header (x ∷ xs)) = h.bytes_are ∙ ap (being_written header) e in
      more_written (x ∷ xs) new (h.ports (λ none. some_bytes header (x ∷ xs) (sym same ∙ none)))
      (subst (AllByRecursion IsPayloadData) e h.ranges) (ap (list_all data_fits) (sym e) ∙ h.fit)
      (are ∙ ap (λ (z : List ℕ). begun header z ++ chunk_bytes (chunks.Data c)) same
      ∙ ap (λ (z : List ℕ). z ++ chunk_bytes (chunks.Data c)) (begun_before header (x ∷ xs)))

  -- what was being written is taken out, begun with the common header where it was empty, and DATA is put behind it
  pub more_on : {bytes out first new : List ℕ} → IsBeingWritten header bytes → out ≡ bytes
      → (out ≡ [] → IsHeader header) → first ≡ begun header out → new ≡ first ++ chunk_bytes (chunks.Data c)
      → (data_in new ≡ data_in bytes ++ c ∷ []) × IsBeingWritten header new
  more_on {bytes = bytes} {new = new} h were ports starts ends =
      behind bytes new (data_in bytes) refl h (λ none. ports (were ∙ none))
      (ends ∙ ap (λ (z : List ℕ). z ++ chunk_bytes (chunks.Data c)) (starts ∙ ap (begun header) were))
