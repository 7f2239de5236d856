-- The promises of settling, put together.
use Rattle.board.specs.Promises.{SoundContentsSettle, SettlingIsComputed, CallsKeepEaseAndSettle}
use Rattle.board.proofs.Rounds.Spelling.{spelled}
use Rattle.board.proofs.Rounds.Pairs.{record_on, distinct}
use Rattle.board.proofs.Rounds.Minimal.{minimal, least_cost, record_below, rising}
use Rattle.board.proofs.Questions.Readings.{recorded_complete, recorded_cheapest, none_complete, none_read}
use Rattle.board.proofs.Rounds.Existence.{exists}
use Rattle.board.proofs.Rounds.Uniqueness.{unique}
use Rattle.board.proofs.Questions.Single.{one_reading}
use Rattle.board.proofs.Questions.Finding.{answered, computed}
use Rattle.board.proofs.Contents.Easing.{answer_eased}
use Rattle.board.proofs.Questions.Depth.{settled_checked}
use Rattle.board.proofs.Contents.Keeps.{calls_keep}
use Rattle.board.proofs.Contents.Softening.{calls_ease}

pub settling_promises : SoundContentsSettle
settling_promises m c laws sound = (
  (_, exists laws sound),
  λ log d. (
    record {
      spelled = spelled laws sound d.reached;
      minimal = λ vs s q k on b below. minimal laws sound d on b below;
      least = λ a i. least_cost laws sound d a i (record_on laws sound d.reached a i).0;
      below = record_below laws sound d.reached;
      placed = record_on laws sound d.reached;
      apart = distinct d.reached;
      rising = rising laws sound d.reached;
      unique = λ log' d'. unique laws sound d d';
    },
    record {
      complete = λ k vs r. recorded_complete laws sound d r;
      cheapest = λ k n vs ws r h. recorded_cheapest laws sound d r h;
      none = (none_complete laws sound d, none_read laws sound d.reached);
      single = λ k n vs ws r s. one_reading laws sound d r s;
      answered = answered laws sound d.reached;
      checked = settled_checked laws sound d;
      eased = λ c' log' k k' sound' e d' a a'. answer_eased laws sound sound' e d d' a a';
    },
  ),
)

pub settling_computed : SettlingIsComputed
settling_computed m c laws sound = computed laws sound

pub board_promises : CallsKeepEaseAndSettle
board_promises = record { kept = calls_keep; eased = λ m laws. calls_ease laws; settling = settling_promises; computed = settling_computed }
