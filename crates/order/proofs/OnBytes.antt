-- The order, on bytes: what the client reads in the answers is the trace that the board made.
use mathlib.Core.Path.{◌≡◌, refl, sym, ap, ap₂, ◌∙◌, subst}
use mathlib.Core.List.{List, [], ◌∷◌, map}
use Rattle.order.specs.Talk.{Answer}
use Rattle.order.specs.Gauge.{end_of}
use Rattle.order.specs.Serve.{Setup, Board, step, trace, run}
use Rattle.order.specs.Observe.{Done, Pairs, observe, fresh}
use Rattle.order.specs.Promise.{ops_of, start, done_in, Serial}
use Rattle.order.specs.Bytes.{Call, heard, sensed, meant, answer_bytes, call, talk, after_all, understood, reads, client, SerialBytes, Clear}
use Rattle.order.proofs.Serial.{serial}

module _ (S : Setup) (clear : Clear S) where
  understands : (b : Board S) (c : Call S) → understood S c (answer_bytes S c (step S b (meant S c)).1) ≡ (step S b (meant S c)).1
  unfolding step
  understands b (heard l m) = clear l m b.store (S.wires.at b.lines l) ((S.speech l).ask m)
  understands b (sensed s) = refl

  pub decoded : (cs : List (Call S)) (b : Board S) → map (reads S) (talk S b cs) ≡ trace S b (map (meant S) cs)
  unfolding talk call trace
  decoded [] b = refl
  decoded (c ∷ cs) b = ap₂ (λ (t : Answer S.gauge.Name) (r : Pairs S). (meant S c, t) ∷ r) (understands b c) (decoded cs (step S b (meant S c)).0)

  same-run : (cs : List (Call S)) (b : Board S) → run S b (map (meant S) cs) ≡ after_all S b cs
  unfolding after_all call run
  same-run [] b = refl
  same-run (c ∷ cs) b = same-run cs (step S b (meant S c)).0

  same-done : (g : S.gauge.Store) (cs : List (Call S)) → done_in S g (map (meant S) cs) ≡ client S (talk S (start S g) cs)
  unfolding client
  same-done g cs = ap (λ (ps : Pairs S). observe S ps (fresh S)) (sym (decoded cs (start S g)))

  -- THEOREM: for every list of calls, from power-up
  pub serial_bytes : (g : S.gauge.Store) (cs : List (Call S)) → SerialBytes S g cs
  serial_bytes g cs =
      let s : Serial S g (map (meant S) cs) = serial S g (map (meant S) cs) in
      record {
        same_results = rw (same-done g cs) at s.same_results;
        same_end = subst (λ (ds : List (Done S.gauge)). end_of S.gauge g (ops_of S.gauge ds) ≡ (after_all S (start S g) cs).store) (same-done g cs)
            (s.same_end ∙ ap (λ (b : Board S). b.store) (same-run cs (start S g)));
      }
