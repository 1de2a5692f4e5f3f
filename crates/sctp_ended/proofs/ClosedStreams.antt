-- What a generation of a stream holds that ended and is still read stays what it is, or less, whatever is done to the
-- live streams, as long as no piece is put into it.
use Rattle.std.proofs.Common.{◌≡◌, refl, sym, ◌∙◌, ℕ, ◌<◌, arith, true, false, eqb, Option, Some, None}
use Rattle.std.proofs.lemmas.Bool.{false≢true}
use Rattle.sctp_wire_types.specs.declared.chunk.ChunkPayloadData.{ChunkPayloadData}
use Rattle.sctp_wire_types.specs.declared.ids.PayloadProtocolIdentifier.{PayloadProtocolIdentifier}
use Rattle.sctp_receive_queues.specs.Messages.{ReceivedMessage}
use Rattle.sctp_receive_queues.specs.Reassembly.{Reassembly, taken}
use Rattle.sctp_streams.specs.declared.halves.RecvSendState.{RecvSendState}
use Rattle.sctp_streams.specs.declared.halves.RecvSendState.TheVariants as halves
use Rattle.sctp_streams.specs.Stream.{StreamView, is_read_half_open, read_with, with_halves, without_read_half}
use Rattle.sctp_streams.specs.Streams.{StreamMap, change_at, changed_stream, made, passed_in, pushed_at, pushed_in}
use Rattle.sctp_streams.specs.Streams.{read_at, read_in, stream_at, without_stream, without_streams}
use Rattle.sctp_reset_fit.specs.Pieces.{HoldsOnly}
use Rattle.sctp_reset_fit.proofs.HeldPieces.{taken_holds, unordered_skipped_holds}
use Rattle.sctp_ended.proofs.LiveStream.{IsAt, changed_at, made_at, none_at, passed_in_at, pushed_in_at, read_in_at}
use Rattle.sctp_ended.proofs.LiveStream.{without_at}

-- Where one live stream is this generation and can be read, boundaries are kept of it (Marked), and P is so of each
-- piece that it holds.
abbrev pub IsOld : (ChunkPayloadData → Type 0) → ℕ → ℕ → Type 0 → StreamView → Type 0
IsOld P id generation Marked s =
    s.stats.generation ≡ generation → is_read_half_open s.halves ≡ true → Marked × HoldsOnly P id s.reassembly

-- The generation of this number was given out, the stream of its identifier stands once among the live ones, and where
-- that is this generation and can be read, that is so.
pub record IsClosed (P : ChunkPayloadData → Type 0) (id generation : ℕ) (Marked : Type 0) (m : StreamMap) : Type 0 where
  pub given : generation < m.next_generation
  pub live : IsAt (IsOld P id generation Marked) id m

module _ (P : ChunkPayloadData → Type 0) (id generation : ℕ) where
  abbrev Old : Type 0 → StreamView → Type 0
  Old Marked s = IsOld P id generation Marked s

  -- so it is where less is said of boundaries

  less_marked : (M N : Type 0) → (M → N) → (s : StreamView) → Old M s → Old N s
  less_marked M N less s old number is_open = let was = old number is_open in (less was.0, was.1)

  pub weaker_closed : (M N : Type 0) (m : StreamMap) → (M → N) → IsClosed P id generation M m
      → IsClosed P id generation N m
  weaker_closed M N m less h = record {
    given = h.given;
    live = record { once = h.live.once; so = λ s e. less_marked M N less s (h.live.so s e) };
  }

  -- One is changed: it stays of its generation, its read half opens not again, and it holds no more

  changed_next : (f : StreamView → StreamView) (m : StreamMap) (k : ℕ) → generation < m.next_generation
      → generation < (changed_stream f m k).next_generation
  changed_next f m k below = by (stream_at m k)
    where
      by : (o : Option StreamView) → generation < (change_at f o m k).next_generation
      by None = below
      by (Some t) = below

  pub changed_closed : (M : Type 0) (f : StreamView → StreamView)
      → ((s : StreamView) → (f s).stats.generation ≡ s.stats.generation)
      → ((s : StreamView) → is_read_half_open (f s).halves ≡ true → is_read_half_open s.halves ≡ true)
      → ((s : StreamView) → HoldsOnly P id s.reassembly → HoldsOnly P id (f s).reassembly)
      → (m : StreamMap) (k : ℕ) → IsClosed P id generation M m → IsClosed P id generation M (changed_stream f m k)
  changed_closed M f numbers opens holds m k h = record {
    given = changed_next f m k h.given;
    live =
        changed_at (Old M) (Old M) id f m k
        (λ same s old number is_open.
        (let was = old (sym (numbers s) ∙ number) (opens s is_open) in (was.0, holds s was.1)))
        (λ other s old. old) h.live;
  }

  -- One ends

  pub without_closed : (M N : Type 0) (m : StreamMap) (k : ℕ) → (eqb id k ≡ false → M → N)
      → IsClosed P id generation M m → IsClosed P id generation N (without_stream m k)
  without_closed M N m k others h = record {
    given = h.given;
    live = without_at (Old M) (Old N) id m k (λ other s old. less_marked M N (others other) s old) h.live;
  }

  -- all end
  pub all_closed : (M N : Type 0) (m : StreamMap) → IsClosed P id generation M m
      → IsClosed P id generation N (without_streams m)
  all_closed M N m h = record { given = h.given; live = none_at (Old N) id m }

  -- One is made where none was live, in the next generation

  pub made_closed : (M : Type 0) (m : StreamMap) (k first : ℕ) (kind : PayloadProtocolIdentifier)
      → stream_at m k ≡ None → IsClosed P id generation M m → IsClosed P id generation M (made m k first kind)
  made_closed M m k first kind none h = record {
    given = (let below = h.given in omega arith);
    live =
        made_at (Old M) (Old M) id m k first kind none (λ number is_open. absurd (another number)) (λ other s old. old)
        h.live;
  }
    where
      another : m.next_generation ≡ generation → ⊥
      another same = let below = h.given in omega arith

  -- A read takes out

  read_old : (M : Type 0) (s : StreamView) (left : Reassembly × Option ReceivedMessage)
      → (s.stats.generation ≡ generation → is_read_half_open s.halves ≡ true → M × HoldsOnly P id left.0)
      → Old M (read_with s left).0
  read_old M s (r, None) h = h
  read_old M s (r, Some message) h = h

  pub read_in_closed : (M : Type 0) (m : StreamMap) (k : ℕ) → IsClosed P id generation M m
      → IsClosed P id generation M (read_in m k).0
  read_in_closed M m k h = record {
    given = next (stream_at m k);
    live =
        read_in_at (Old M) (Old M) id m k
        (λ same s old. read_old M s (taken s.reassembly)
        (λ number is_open.
        (let was = old number is_open in (was.0, (taken_holds P id s.reassembly was.1).0))))
        (λ other s old. old) h.live;
  }
    where
      next : (o : Option StreamView) → generation < (read_at o m k).0.next_generation
      next None = h.given
      next (Some t) = h.given

  -- A piece comes on another stream, or on one of which no boundaries are kept

  pub pushed_in_closed : (M : Type 0) (m : StreamMap) (k : ℕ) (p : ChunkPayloadData) → (id ≡ k → M → ⊥)
      → IsClosed P id generation M m → IsClosed P id generation M (pushed_in m k p).0
  pushed_in_closed M m k p apart h = record {
    given = next (stream_at m k);
    live =
        pushed_in_at (Old M) (Old M) id m k p
        (λ same s is old number is_open. absurd (apart same (old number is_open).0)) (λ other s old. old) h.live;
  }
    where
      next : (o : Option StreamView) → generation < (pushed_at o m k p).0.next_generation
      next None = h.given
      next (Some t) = h.given

  -- A FORWARD TSN drops unordered pieces on all streams

  pub passed_in_closed : (M : Type 0) (m : StreamMap) (tsn : ℕ) → IsClosed P id generation M m
      → IsClosed P id generation M (passed_in m tsn)
  passed_in_closed M m tsn h = record {
    given = h.given;
    live =
        passed_in_at (Old M) (Old M) id m tsn
        (λ s old number is_open.
        (let was = old number is_open in (was.0, unordered_skipped_holds P id s.reassembly tsn was.1))) h.live;
  }

  -- The read half closes

  shut : (h : RecvSendState) → is_read_half_open (without_read_half h) ≡ false
  shut halves.Closed = refl
  shut halves.Readable = refl
  shut halves.Writable = refl
  shut halves.ReadWritable = refl

  pub half_closed : (M N : Type 0) (m : StreamMap) (k : ℕ) → (eqb id k ≡ false → M → N)
      → IsClosed P id generation M m
      → IsClosed P id generation N (changed_stream (λ s. with_halves s (without_read_half s.halves)) m k)
  half_closed M N m k others h = record {
    given = changed_next (λ s. with_halves s (without_read_half s.halves)) m k h.given;
    live =
        changed_at (Old M) (Old N) id (λ s. with_halves s (without_read_half s.halves)) m k
        (λ same s old number is_open. absurd (false≢true (sym (shut s.halves) ∙ is_open)))
        (λ other s old. less_marked M N (others other) s old) h.live;
  }
