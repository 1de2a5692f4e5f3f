-- What is so of each piece that the live streams hold stays so.
use Rattle.std.proofs.Common.{◌≡◌, refl, sym, subst, ℕ, Bool, true, cond, List, [], ◌∷◌, Option, Some, None}
use Rattle.std.proofs.Common.{Ordering, Less, Equal, Greater, nat_cmp}
use Rattle.std.specs.List.{AllByRecursion}
use Rattle.std.specs.Ordering.{is_eq, match_ordering}
use Rattle.std.specs.BTreeMap.{insert_entry, is_at}
use Rattle.std.specs.Map.{lookup, remove_entry, set_value}
use Rattle.std.proofs.lemmas.Bool.{false≢true}
use Rattle.std.proofs.lemmas.Cmp.{ranked}
use Rattle.sctp_wire_types.specs.declared.chunk.ChunkPayloadData.{ChunkPayloadData}
use Rattle.sctp_wire_types.specs.declared.ids.PayloadProtocolIdentifier.{PayloadProtocolIdentifier}
use Rattle.sctp_receive_queues.specs.Messages.{ReceivedMessage}
use Rattle.sctp_receive_queues.specs.Reassembly.{Reassembly, taken}
use Rattle.sctp_streams.specs.Stream.{StreamView, fresh_stream, read_with, released_from, stream_read}
use Rattle.sctp_streams.specs.Stream.{with_ssn_given_back}
use Rattle.sctp_streams.specs.Streams.{StreamMap, change_at, changed_stream, given_back_in, is_generation, made}
use Rattle.sctp_streams.specs.Streams.{passed_each, passed_in, pushed_at, pushed_in, read_at, read_in, refusal_at}
use Rattle.sctp_streams.specs.Streams.{refusal_in, released_in, stream_at, with_stream, without_stream}
use Rattle.sctp_resets.proofs.ListsOver.{of_chosen}
use Rattle.sctp_reset_fit.specs.Pieces.{HoldsOnly, IsMadeOfWhereThere}
use Rattle.sctp_sides.specs.Held.{StreamsHoldOnly}
use Rattle.sctp_reset_fit.proofs.HeldPieces.{IsSoWhereThere, empty_holds, of_chosen_where, pushed_holds, taken_holds}
use Rattle.sctp_reset_fit.proofs.HeldPieces.{unordered_skipped_holds}

-- an entry that is found has the identifier that is looked for
found_at : (id x : ℕ) → is_at (nat_cmp id) x ≡ true → id ≡ x
found_at id x e = by (nat_cmp id x) refl e
  where
    by : (o : Ordering) → o ≡ nat_cmp id x → is_eq o ≡ true → id ≡ x
    by Less from e = absurd (false≢true e)
    by Equal from e = ranked id x Equal from
    by Greater from e = absurd (false≢true e)

-- The pieces of which something is so.
module _ (P : ChunkPayloadData → Type 0) where
  -- the stream of an identifier holds only such
  abbrev StreamHoldsOnly : ℕ → StreamView → Type 0
  StreamHoldsOnly id s = HoldsOnly P id s.reassembly

  -- so does each of these
  abbrev EachHoldsOnly : List (ℕ × StreamView) → Type 0
  EachHoldsOnly es = AllByRecursion (λ (e : ℕ × StreamView). HoldsOnly P e.0 e.1.reassembly) es

  -- One stream is found, set, made or ends

  found_holds : (id : ℕ) (es : List (ℕ × StreamView)) → EachHoldsOnly es
      → IsSoWhereThere (StreamHoldsOnly id) (lookup (is_at (nat_cmp id)) es)
  found_holds id [] each = tt
  found_holds id (e ∷ es) each =
      let test : ℕ → Bool = is_at (nat_cmp id) in
      of_chosen_where (IsSoWhereThere (StreamHoldsOnly id)) (test e.0) (Some e.1) (lookup test es)
      (λ (here : test e.0 ≡ true). by (found_at id e.0 here)) (found_holds id es each.1)
    where
      by : id ≡ e.0 → HoldsOnly P id e.1.reassembly
      by same = subst (λ (k : ℕ). HoldsOnly P k e.1.reassembly) (sym same) each.0

  stream_at_holds : (m : StreamMap) (id : ℕ) → StreamsHoldOnly P m
      → IsSoWhereThere (StreamHoldsOnly id) (stream_at m id)
  stream_at_holds m id h = found_holds id m.by_id h

  set_holds : (id : ℕ) (es : List (ℕ × StreamView)) (s : StreamView) → EachHoldsOnly es → StreamHoldsOnly id s
      → EachHoldsOnly (set_value (is_at (nat_cmp id)) es s)
  set_holds id [] s each one = tt
  set_holds id (e ∷ es) s each one =
      let test : ℕ → Bool = is_at (nat_cmp id) in
      of_chosen_where EachHoldsOnly (test e.0) ((e.0, s) ∷ es) (e ∷ set_value test es s)
      (λ (here : test e.0 ≡ true).
      (subst (λ (k : ℕ). HoldsOnly P k s.reassembly) (found_at id e.0 here) one, each.1))
      (each.0, set_holds id es s each.1 one)

  with_stream_holds : (m : StreamMap) (id : ℕ) (s : StreamView) → StreamsHoldOnly P m → HoldsOnly P id s.reassembly
      → StreamsHoldOnly P (with_stream m id s)
  with_stream_holds m id s h one = set_holds id m.by_id s h one

  removed_holds : (test : ℕ → Bool) (es : List (ℕ × StreamView)) → EachHoldsOnly es
      → EachHoldsOnly (remove_entry test es)
  removed_holds test [] each = tt
  removed_holds test (e ∷ es) each =
      of_chosen EachHoldsOnly (test e.0) es (e ∷ remove_entry test es) each.1
      (each.0, removed_holds test es each.1)

  -- a stream that holds nothing is put in under whatever identifier
  inserted_holds : (es : List (ℕ × StreamView)) (id : ℕ) (s : StreamView) → EachHoldsOnly es
      → ((k : ℕ) → StreamHoldsOnly k s) → EachHoldsOnly (insert_entry nat_cmp es id s)
  inserted_holds [] id s each one = (one id, tt)
  inserted_holds (e ∷ es) id s each one = by (nat_cmp id e.0) (inserted_holds es id s each.1 one)
    where
      by : (o : Ordering) → EachHoldsOnly (insert_entry nat_cmp es id s)
          → EachHoldsOnly (match_ordering o ((id, s) ∷ e ∷ es) ((e.0, s) ∷ es) (e ∷ insert_entry nat_cmp es id s))
      by Less others = (one id, each)
      by Equal others = (one e.0, each.1)
      by Greater others = (each.0, others)

  pub without_stream_holds : (m : StreamMap) (id : ℕ) → StreamsHoldOnly P m → StreamsHoldOnly P (without_stream m id)
  without_stream_holds m id h = removed_holds (is_at (nat_cmp id)) m.by_id h

  pub made_holds : (m : StreamMap) (id first : ℕ) (kind : PayloadProtocolIdentifier) → StreamsHoldOnly P m
      → StreamsHoldOnly P (made m id first kind)
  made_holds m id first kind h =
      inserted_holds m.by_id id (fresh_stream id m.next_generation first kind) h (λ k. empty_holds P k)

  pub changed_holds : (f : StreamView → StreamView)
      → ((k : ℕ) (s : StreamView) → HoldsOnly P k s.reassembly → HoldsOnly P k (f s).reassembly) → (m : StreamMap)
      (id : ℕ) → StreamsHoldOnly P m → StreamsHoldOnly P (changed_stream f m id)
  changed_holds f keeps m id h = by (stream_at m id) (stream_at_holds m id h)
    where
      by : (o : Option StreamView) → IsSoWhereThere (StreamHoldsOnly id) o → StreamsHoldOnly P (change_at f o m id)
      by None there = h
      by (Some s) there = with_stream_holds m id (f s) h (keeps id s there)

  -- A piece comes that its stream does not refuse, and a message is read

  pub pushed_in_holds : (m : StreamMap) (p : ChunkPayloadData) (limit : ℕ) → StreamsHoldOnly P m → P p
      → refusal_in m p.stream_identifier p limit ≡ None → StreamsHoldOnly P (pushed_in m p.stream_identifier p).0
  pushed_in_holds m p limit h one accepted =
      by (stream_at m p.stream_identifier) (stream_at_holds m p.stream_identifier h) accepted
    where
      by : (o : Option StreamView) → IsSoWhereThere (StreamHoldsOnly p.stream_identifier) o
          → refusal_at o p limit ≡ None → StreamsHoldOnly P (pushed_at o m p.stream_identifier p).0
      by None there e = h
      by (Some s) there e =
          with_stream_holds m p.stream_identifier _ h
          (pushed_holds P p.stream_identifier s.reassembly p limit there one refl e)

  read_with_holds : (id : ℕ) (s : StreamView) (left : Reassembly × Option ReceivedMessage) → HoldsOnly P id left.0
      → IsMadeOfWhereThere P id left.1
      → HoldsOnly P id (read_with s left).0.reassembly × IsMadeOfWhereThere P id (read_with s left).1
  read_with_holds id s (r, None) h read = (h, read)
  read_with_holds id s (r, Some m) h read = (h, read)

  stream_read_holds : (id : ℕ) (s : StreamView) → HoldsOnly P id s.reassembly
      → HoldsOnly P id (stream_read s).0.reassembly × IsMadeOfWhereThere P id (stream_read s).1
  stream_read_holds id s h =
      let t = taken_holds P id s.reassembly h in read_with_holds id s (taken s.reassembly) t.0 t.1

  pub read_in_holds : (m : StreamMap) (id : ℕ) → StreamsHoldOnly P m
      → StreamsHoldOnly P (read_in m id).0 × IsMadeOfWhereThere P id (read_in m id).1
  read_in_holds m id h = by (stream_at m id) (stream_at_holds m id h)
    where
      by : (o : Option StreamView) → IsSoWhereThere (StreamHoldsOnly id) o
          → StreamsHoldOnly P (read_at o m id).0 × IsMadeOfWhereThere P id (read_at o m id).1
      by None there = (h, tt)
      by (Some s) there =
          let r = stream_read_holds id s there in (with_stream_holds m id (stream_read s).0 h r.0, r.1)

  -- Pieces are dropped

  passed_each_holds : (tsn : ℕ) (es : List (ℕ × StreamView)) → EachHoldsOnly es → EachHoldsOnly (passed_each tsn es)
  passed_each_holds tsn [] each = tt
  passed_each_holds tsn (e ∷ es) each =
      (unordered_skipped_holds P e.0 e.1.reassembly tsn each.0, passed_each_holds tsn es each.1)

  pub passed_in_holds : (m : StreamMap) (tsn : ℕ) → StreamsHoldOnly P m → StreamsHoldOnly P (passed_in m tsn)
  passed_in_holds m tsn h = passed_each_holds tsn m.by_id h

  -- Bytes are released

  pub released_in_holds : (m : StreamMap) (id generation bytes : ℕ) → StreamsHoldOnly P m
      → StreamsHoldOnly P (released_in m id generation bytes)
  released_in_holds m id generation bytes h =
      of_chosen (StreamsHoldOnly P) (is_generation (stream_at m id) generation) _ m
      (changed_holds (λ s. released_from s bytes) (λ k s held. held) m id h) h

  pub given_back_in_holds : (m : StreamMap) (id generation : ℕ) (unordered : Bool) (bytes : ℕ) → StreamsHoldOnly P m
      → StreamsHoldOnly P (given_back_in m id generation unordered bytes)
  given_back_in_holds m id generation unordered bytes h =
      of_chosen (StreamsHoldOnly P) (is_generation (stream_at m id) generation) _ m
      (changed_holds (λ s. released_from (cond unordered s (with_ssn_given_back s)) bytes)
      (λ k s held. of_chosen (StreamHoldsOnly k) unordered s (with_ssn_given_back s) held held) m id h) h
