use Rattle.js_drive.proofs.Threads.{has_served}
use Rattle.js_drive.proofs.driving.run.Goals as goal

pub returns : goal.returns
returns g c =
    let drove = c.drive-driver.ensures in
    (drove.same, has_served g.L.Language.spoken c.args.driver c.drive-driver.result c.requires drove.acts drove.ended drove.shown.0 drove.shown.1 drove.stopped)
